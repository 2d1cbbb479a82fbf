-- `places::vector_at` meets its contract: each return is what the tests on its way make of `vector_at`. Assumes nothing.
use mathlib.Core.Path.{refl}
use native.Mathlib.Omega.{arith}
use Rattle.places.proofs.Search.{none_state, none_wide, none_whole, whole, some_part}
use Rattle.places.proofs.vector_at.Goals as goal

pub returns-then-count-state : goal.returns-then-count-state
returns-then-count-state c = none_state _ _ _ _ (omega arith)

pub returns-then-n-eq0 : goal.returns-then-n-eq0
returns-then-n-eq0 c = none_wide _ _ _ _ (omega arith)

pub returns-then-vectors-n : goal.returns-then-vectors-n
returns-then-vectors-n c = none_whole _ _ _ _ (omega arith) (omega arith) (omega arith)

pub overflow_mul-from : goal.overflow_mul-from
overflow_mul-from c = let h = whole c.args.vectors.now c.args.n c.args.count c.args.state (omega arith) (omega arith) in omega arith

pub overflow_add-to : goal.overflow_add-to
overflow_add-to c = let h = whole c.args.vectors.now c.args.n c.args.count c.args.state (omega arith) (omega arith) in omega arith

pub slice_bounds-result-end-2 : goal.slice_bounds-result-end-2
slice_bounds-result-end-2 c = let h = whole c.args.vectors.now c.args.n c.args.count c.args.state (omega arith) (omega arith) in omega arith

pub returns : goal.returns
returns c = some_part _ _ _ _ (omega arith) (whole c.args.vectors.now c.args.n c.args.count c.args.state (omega arith) (omega arith)) _ refl
