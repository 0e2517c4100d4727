-- Meaning: how the marks of a live order stand against its plan: what runs, what awaits its step, what is stopped and what undoes. Read from the marks alone,
-- at every depth. Assumes nothing: these are definitions.
use Rattle.std.specs.Prelude.{ℕ, ◌+◌, ◌-◌, ◌≡◌, Bool, true, false, cond, not, ◌&&◌, ◌||◌, List, get_or, length, eqb, leb, ltb}
use Rattle.plan.specs.Tree.{Own, kind, is_scope, has_undo, numbers_of, Act, act, Acts, none, more, Plan, size, sizes}
use Rattle.order.specs.declared.Order.{Order}
use Rattle.order.specs.State.{idle, active, inside, done, faulty, undoing, handling, halted, withdrawing, state_in, choice_in, is_live}
use Rattle.order.specs.Begin.{quiet}
use Rattle.order.specs.Scope.{inner_runs}
use Rattle.undoing.specs.Ties.{Always}

-- whether an activity has a step of its own, or has those of its arms: all but empty ones, sequences, flows, scopes and arms
unfoldable pub is_doing : (kind : ℕ) → Bool
is_doing n = not ((eqb n 0 || eqb n 255) || ((eqb n 8 || eqb n 9) || (eqb n 11 || (eqb n 12 || eqb n 14))))

-- the mark with which one of its parts runs: a choose, a repeat or a pick is inside; a sequence and a flow are active; an arm has none
unfoldable pub holding_of : (kind : ℕ) → ℕ
holding_of n = cond ((eqb n 6 || eqb n 7) || eqb n 10) inside (cond (eqb n 8 || eqb n 9) active idle)

-- which of the parts after a scope's body is the one that it chose, by its mark: the general one stands after those by number
unfoldable pub choice_on : (numbers : List ℕ) → (mark : ℕ) → ℕ
choice_on ns m = cond (ltb 0 (choice_in m) && (ltb (choice_in m) 9 && leb (choice_in m) (length ns))) (choice_in m - 1) (length ns)

abbrev pub is_none : Acts → Bool
is_none none = true
is_none (more a l) = false

unfoldable mutual
  -- It runs: it awaits its step, and nothing runs within; it has decided, and one of its parts runs; a sequence, of which one runs; a flow, of which some do,
  -- each by itself; an arm that was taken, which has no mark. Or it is a scope that runs.
  pub runs_in : Act → (k : ℕ) → List ℕ → Bool
  runs_in (act own within) k ms =
      let m = get_or ms k 0 in
      let n = kind own in
      elim (is_scope own) [
        | true ↦ scope_runs (numbers_of own) within k ms
        | false ↦ (is_doing n && (eqb m active && quiet (k + 1) (sizes within) ms))
            || ((eqb m (holding_of n) && one_runs within (k + 1) ms) || (eqb n 9 && (eqb m active && (all_run within (k + 1) ms && not (quiet (k + 1) (sizes within) ms)))))
      ]

  -- "the next" only "when that ends": one of these runs, and the others are quiet
  pub one_runs : Acts → (c : ℕ) → List ℕ → Bool
  one_runs none c ms = false
  one_runs (more a l) c ms = (runs_in a c ms && quiet (c + size a) (sizes l) ms) || (quiet c (size a) ms && one_runs l (c + size a) ms)

  -- each of these runs or is over
  pub all_run : Acts → (c : ℕ) → List ℕ → Bool
  all_run none c ms = true
  all_run (more a l) c ms = (runs_in a c ms || quiet c (size a) ms) && all_run l (c + size a) ms

  -- A scope runs: its body does, and nothing in its other parts; its body is done, and nothing runs in it; or it has turned, and its undo part is quiet.
  pub scope_runs : (numbers : List ℕ) → Acts → (k : ℕ) → List ℕ → Bool
  scope_runs ns none k ms = false
  scope_runs ns (more b l) k ms =
      let m = get_or ms k 0 in
      let c = k + 1 + size b in
      (eqb m active && (runs_in b (k + 1) ms && quiet c (sizes l) ms))
      || ((eqb m done && quiet (k + 1) (size b + sizes l) ms)
      || (turned_runs (choice_on ns m) l c ms m (stopped_in b (k + 1) ms && inner_runs b (k + 1) ms) (undoing_in b (k + 1) ms) (quiet (k + 1) (size b) ms)))

  -- A scope that turned, by its mark, its fault parts and undo part, and how its body stands: it waits for its inner scopes, in a stopped body; it undoes; or it
  -- handles, when all in its body is over, and of its parts only the fault part that it chose runs.
  pub turned_runs : (chosen : ℕ) → Acts → (c : ℕ) → List ℕ → (mark : ℕ) → (waits undoes over : Bool) → Bool
  turned_runs i none c ms m w u q = false
  turned_runs i (more f l) c ms m w u q =
      ((((eqb (state_in m) faulty || eqb m halted) && w) || ((eqb (state_in m) undoing || eqb m withdrawing) && u)) && quiet c (size f + sizes l) ms)
      || (eqb (state_in m) handling && (q && cond (eqb i 0) (runs_in f c ms && quiet (c + size f) (sizes l) ms) (quiet c (size f) ms && only_runs (i - 1) l (c + size f) ms)))

  -- the i-th of these runs, and the others are quiet
  pub only_runs : (i : ℕ) → Acts → (c : ℕ) → List ℕ → Bool
  only_runs i none c ms = false
  only_runs i (more a l) c ms = cond (eqb i 0) (runs_in a c ms && quiet (c + size a) (sizes l) ms) (quiet c (size a) ms && only_runs (i - 1) l (c + size a) ms)

  -- "Its body stops": nothing runs in it but inner scopes that turned. "This holds at every depth."
  pub stopped_in : Act → (k : ℕ) → List ℕ → Bool
  stopped_in (act own within) k ms =
      elim (is_scope own) [
        | true ↦ quiet k (1 + sizes within) ms || (not (eqb (get_or ms k 0) active || eqb (get_or ms k 0) done) && scope_runs (numbers_of own) within k ms)
        | false ↦ eqb (get_or ms k 0) idle && stopped_all within (k + 1) ms
      ]

  pub stopped_all : Acts → (c : ℕ) → List ℕ → Bool
  stopped_all none c ms = true
  stopped_all (more a l) c ms = stopped_in a c ms && stopped_all l (c + size a) ms

  -- "the last remembered for it is removed and its undo part started; when that ends, the next": one undo part of a scope directly inside runs, looked for through
  -- scopes with no undo part, and nothing else
  pub undoing_in : Act → (k : ℕ) → List ℕ → Bool
  undoing_in (act own within) k ms =
      eqb (get_or ms k 0) idle
      && elim (is_scope own) [ true ↦ cond (has_undo own) (last_runs within (k + 1) ms) (undoing_first within (k + 1) ms) | false ↦ undoing_one within (k + 1) ms ]

  pub undoing_one : Acts → (c : ℕ) → List ℕ → Bool
  undoing_one none c ms = false
  undoing_one (more a l) c ms = (undoing_in a c ms && quiet (c + size a) (sizes l) ms) || (quiet c (size a) ms && undoing_one l (c + size a) ms)

  -- in the body of a scope, whose other part is quiet
  pub undoing_first : Acts → (c : ℕ) → List ℕ → Bool
  undoing_first none c ms = false
  undoing_first (more b l) c ms = undoing_in b c ms && quiet (c + size b) (sizes l) ms

  -- of the parts of a scope the last runs, and the others are quiet
  pub last_runs : Acts → (c : ℕ) → List ℕ → Bool
  last_runs none c ms = false
  last_runs (more a l) c ms = elim (is_none l) [ true ↦ runs_in a c ms | false ↦ quiet c (size a) ms && last_runs l (c + size a) ms ]

-- the root is a scope whose mark stands apart, and it has no undo part
unfoldable pub stands : Plan → Order → Bool
stands p o =
    let m = o.root in
    let ms = o.marks in
    let q = quiet (size p.body) (size p.fault) ms in
    (eqb m active && (runs_in p.body 0 ms && q))
    || (((((eqb (state_in m) faulty || eqb m halted) && (stopped_in p.body 0 ms && inner_runs p.body 0 ms)) || ((eqb (state_in m) undoing || eqb m withdrawing) && undoing_in p.body 0 ms)) && q)
    || (eqb (state_in m) handling && (quiet 0 (size p.body) ms && runs_in p.fault (size p.body) ms)))

-- After any run of posts, collects and choices from a fresh start, for every accepted plan, a live order in any slot stands so.
unfoldable pub Stands : Type 0
Stands = Always (λ p o past. is_live o ≡ true → stands p o ≡ true)
