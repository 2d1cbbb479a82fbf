-- The plan of a kind whose values are vectors, where its room fits. Assumes nothing.
use mathlib.Core.Path.{◌≡◌, refl, sym, ap, ◌∙◌}
use mathlib.Core.Bool.{true, false≢true}
use mathlib.Core.List.{List}
use Prim.Native.Nat.{ℕ, ◌≤◌}
use native.Mathlib.Omega.{arith}
use lib.ListN.{length}
use Rattle.paper.specs.Chart.{n_of, letters}
use Rattle.paper.specs.Check.{chart_fits}
use Rattle.algebra.proofs.Checked.{fits_ranged, head_sizes}
use Rattle.kinds.specs.Kinds.{made_by, Ready}
use Rattle.kinds.specs.Ready.{of_vectors, Sized}
use Rattle.walk.specs.Walked.{GrowAsks}
use Rattle.kinds.specs.declared.Kind.{Kind}
use Rattle.kinds.specs.declared.Kind.TheVariants.{Nerode, Reduced, Reverse, Rows}
use Rattle.kinds.specs.declared.plan.Plan.{Plan}
use Rattle.rooms.proofs.Rooms.{Roomy}

-- it is not that of rows
no_rows : (k : Kind) → of_vectors k ≡ true → k ≡ Kind.Rows → ⊥
no_rows k e q = false≢true (ap of_vectors (sym q) ∙ e)

-- no reverse table is read
pub made_alike : (k : Kind) (c t t' : List ℕ) (m r : ℕ) → of_vectors k ≡ true → made_by k c t m r ≡ made_by k c t' m r
made_alike Nerode c t t' m r e = refl
made_alike Reduced c t t' m r e = refl
made_alike Reverse c t t' m r e = refl
made_alike Rows c t t' m r e = absurd (false≢true e)

module _ (kind : Kind) (c : List ℕ) (fits : chart_fits c ≡ true) {most n room table vectors : ℕ} (r : Roomy most (letters c) (n_of c) room table vectors)
    (l : most ≤ 4096) where
  pub vector_sized : n ≡ n_of c → Sized kind c n n room
  vector_sized e =
      let z = head_sizes c (fits_ranged c fits) in
      record {
        fits = fits;
        vectors = λ _. e;
        width_low = omega (arith, z.n_low);
        inside = omega arith;
        stride_high = omega (arith, z.n_high);
        room_low = r.low;
        room_high = omega (arith, r.high);
      }

-- what growing asks of room and memory is there, where the plan is ready
pub plan_asks : (p : Plan) {most : ℕ} {table vectors : List ℕ} → Ready p → p.stride ≡ n_of p.chart.now → Roomy most (letters p.chart.now) (n_of p.chart.now) p.room (length table) (length vectors) →
    GrowAsks p table vectors
plan_asks p a e r = record { ready = a; table_fits = r.rows; fits = rw e r.places }

pub vector_asks : (p : Plan) {most : ℕ} {table vectors : List ℕ} → of_vectors p.kind ≡ true → p.stride ≡ n_of p.chart.now → Roomy most (letters p.chart.now) (n_of p.chart.now) p.room (length table) (length vectors) →
    GrowAsks p table vectors
vector_asks p v e r = plan_asks p (λ q. absurd (no_rows p.kind v q)) e r
