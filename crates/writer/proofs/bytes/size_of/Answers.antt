-- `writer::bytes::size_of` meets its contract. Assumes nothing.
use mathlib.Core.Path.{◌≡◌, ◌∙◌}
use lib.ListN.{length}
use Rattle.numbers.specs.Shortest.{shortest}
use Rattle.std.specs.Prelude.{sum_by}
use Rattle.std.proofs.Common.{rules}
use Rattle.writer.proofs.ByteReturns.{sum-spell}
use Rattle.writer.proofs.bytes.size_of.Goals as goal

pub returns : goal.returns
returns c =
    let e : c.sum.result ≡ sum_by (λ x. length (shortest x)) c.args.row.now = search rules in
    e ∙ sum-spell c.args.row.now
