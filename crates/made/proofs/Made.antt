-- What each builder leaves where it refuses nothing fits beside the chart and has few enough states to be printed. Assumes nothing.
use mathlib.Core.Path.{◌≡◌, refl, sym, ap, subst}
use mathlib.Core.Bool.{true}
use mathlib.Core.Logic.{inl, ⊎_elim}
use mathlib.Core.List.{List, [], ◌∷◌}
use Prim.Native.Nat.{ℕ}
use native.Mathlib.Omega.{arith}
use lib.ListN.{get_or}
use Rattle.paper.specs.Reply.{Reply, fine}
use Rattle.paper.specs.Chart.{letters}
use Rattle.paper.specs.Tables.{table_fits_chart}
use Rattle.paper.specs.Constructions.{Construction, nerode_by, reduced_by}
use Rattle.paper.specs.Builders.{Forward, forward, nerode, reduced, Lent, Backward, brzozowski, blank_table, blank_vectors}
use Rattle.pages.specs.Programs.{program_room, program_reverse, program_lent, or_refusal, built_text, forward_text, backward_text, nerode_makes, reduced_makes, brz_makes}
use Rattle.promises.proofs.Answers.{forward_admits, forward_cases, backward_admits, backward_cases}
use Rattle.promises.proofs.Forward.{nerode_faithful, reduced_faithful}
use Rattle.promises.proofs.Backward.{brzozowski_faithful}
use Rattle.shown.specs.Shown.{Sound}
use Rattle.made.specs.Made.{Made}

-- ---- Nerode and reduced

module _ (c : List ℕ) (b : Construction) (table vectors : List ℕ) where
  abbrev F : Forward
  F = forward c b program_room table vectors

  abbrev Fits : Type 0
  Fits = F.reply.0 ≡ 0 → table_fits_chart c F.table (get_or F.reply.1 0 0) (letters c) ≡ true

  forward_sound : Fits → Sound c F.table F.reply
  forward_sound fits e =
      let a = forward_admits c b program_room table vectors 0 (inl refl) e in
      record {
        chart = a.0;
        fits = fits e;
        few =
            ⊎_elim
            (λ h. absurd (omega (arith, ap (λ (o : Forward). o.reply.0) h.1)))
            (λ h. omega (arith, h.0, ap (λ (o : Forward). get_or o.reply.1 0 0) h.1))
            (forward_cases c b program_room table vectors a);
      }

-- what a call left, by the construction of its kind
forward_made : (c : List ℕ) (b : Construction) (r : Reply) {table vectors lent places : List ℕ} →
    record { reply = r; table = table; vectors = vectors } ≡ forward c b program_room lent places →
    lent ≡ blank_table program_room → places ≡ blank_vectors program_room → Fits c b (blank_table program_room) (blank_vectors program_room) →
    Made (forward_text c (forward c b program_room (blank_table program_room) (blank_vectors program_room))) c table r
unfolding forward_text
forward_made c b r e p q fits =
    let f = rw (p, q) at e in
    record {
      text_is = sym (ap (λ (o : Forward). built_text c o.reply o.table) f);
      sound = subst (λ (o : Forward). Sound c o.table o.reply) (sym f) (forward_sound c b (blank_table program_room) (blank_vectors program_room) fits);
    }

module _ (c : List ℕ) (r : Reply) {table vectors lent places : List ℕ} (p : lent ≡ blank_table program_room) (q : places ≡ blank_vectors program_room) where
  pub nerode_made : record { reply = r; table = table; vectors = vectors } ≡ nerode c program_room lent places → Made (nerode_makes c) c table r
  unfolding nerode nerode_makes
  nerode_made e = forward_made c (nerode_by c) r e p q (λ done. (nerode_faithful c program_room (blank_table program_room) (blank_vectors program_room) done).fits)

  pub reduced_made : record { reply = r; table = table; vectors = vectors } ≡ reduced c program_room lent places → Made (reduced_makes c) c table r
  unfolding reduced reduced_makes
  reduced_made e = forward_made c (reduced_by c) r e p q (λ done. (reduced_faithful c program_room (blank_table program_room) (blank_vectors program_room) done).fits)

-- ---- Brzozowski

backward_sound : (c : List ℕ) (l : Lent) →
    Sound c (brzozowski c program_room program_reverse l).left.table (brzozowski c program_room program_reverse l).reply
backward_sound c l e =
    let a = backward_admits c program_room program_reverse l 0 (inl refl) e in
    let number : Backward → ℕ = λ o. o.reply.0 in
    record {
      chart = a.0;
      fits = (brzozowski_faithful c program_room program_reverse l e).fits;
      few =
          ⊎_elim
          (λ h. absurd (omega (arith, ap number h.1)))
          (λ h.
          ⊎_elim
          (λ g. absurd (omega (arith, ap number g.1)))
          (λ g. omega (arith, g.0, ap (λ (o : Backward). get_or o.reply.1 0 0) g.1))
          h.1)
          (backward_cases c program_room program_reverse l a);
    }

pub brz_made : (c : List ℕ) (r : Reply) {left lent : Lent} →
    record { reply = r; left = left } ≡ brzozowski c program_room program_reverse lent → lent ≡ program_lent → Made (brz_makes c) c left.table r
unfolding brz_makes backward_text
brz_made c r e q =
    let f = rw q at e in
    record {
      text_is = sym (ap (λ (o : Backward). built_text c o.reply o.left.table) f);
      sound = subst (λ (o : Backward). Sound c o.left.table o.reply) (sym f) (backward_sound c program_lent);
    }

-- the text does not tell how many reverse vectors there are
pub first_made : {text c table : List ℕ} {count reverse : ℕ} → Made text c table (fine (count ∷ reverse ∷ [])) → Made text c table (fine (count ∷ []))
unfolding built_text or_refusal
first_made m = record { text_is = m.text_is; sound = m.sound }
