-- Glue: what the scale of a padded number grows to. Assumes nothing: these are definitions, and nothing here has to be believed.
use Rattle.std.specs.Prelude.{ℕ, ◌*◌, cond, ltb}

-- the scale of the next group, which need not grow where only zeros fit
unfoldable pub scale_after : ℕ → ℕ
scale_after scale = cond (ltb scale 34359738368) (scale * 128) scale
