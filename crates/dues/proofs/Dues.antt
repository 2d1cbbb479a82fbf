-- What each kind of frame asks for, where a line leads, and the lines that are due. Assumes nothing.
use mathlib.Core.Path.{◌≡◌, ◌∙◌}
use mathlib.Core.Bool.{Bool, true, false}
use mathlib.Core.List.{List, [], ◌∷◌, ◌++◌}
use mathlib.Core.Logic.{⊎_elim}
use Prim.Native.Nat.{ℕ, zero, suc, ◌+◌, ◌-◌, ◌*◌, ◌≤◌, ◌<◌}
use native.Mathlib.Nat.{not-suc-le-zero, eq-or-lt_of_le, zero-mul, suc-mul}
use native.Mathlib.Numerals.{add-one}
use native.Mathlib.Omega.{arith}
use lib.Dec.{leb}
use lib.ListN.{replicate}
use borrow.Author.Tests.{le-leb, lt-leb, le-ltb, lt-ltb}
use Rattle.paper.specs.Lists.{pick}
use Rattle.paper.specs.Chart.{head_size}
use Rattle.pages.specs.Frames.{line_length}
use Rattle.pages.specs.Texts.{lines_of, width_of, dues_from, chart_most}
use Rattle.lists.proofs.Bound.{product}
use Rattle.dues.specs.declared.Counts.{Counts}
use Rattle.dues.specs.declared.Rule.{Rule}
use Rattle.dues.specs.declared.Cursor.{Cursor}
use Rattle.dues.specs.Dues.{Few, Ruled, Stepping, behind_line}

-- ---- what each kind asks for
module _ (s : Counts) (kind : ℕ) (r : Rule) (n : r.next ≡ kind + 1) where
  pub rule_head : kind ≡ 1 → r.width ≡ head_size → r.lines ≡ 1 → Ruled s kind r
  unfolding width_of lines_of
  rule_head h w l = record { width_is = rw (h, w); lines_is = rw (h, l); next_is = n; small = omega arith }

  module _ (few : Few s) where
    pub rule_grades : 2 ≤ kind → kind ≤ 3 → r.width ≡ s.k → r.lines ≡ s.k → Ruled s kind r
    unfolding width_of lines_of
    rule_grades a b w l =
        record {
          width_is = w ∙ simp (lt-leb kind 1 a, le-leb kind 3 b);
          lines_is = l ∙ simp (lt-leb kind 1 a, le-leb kind 3 b);
          next_is = n;
          small = omega arith;
        }

    module _ (a : 4 ≤ kind) (w : r.width ≡ s.n) where
      wide : r.width ≡ width_of s.k s.n kind
      unfolding width_of
      wide = w ∙ simp (lt-leb kind 1 (omega arith), lt-leb kind 3 a)

      pub rule_vector : kind ≤ 5 → r.lines ≡ 1 → Ruled s kind r
      unfolding lines_of
      rule_vector b l =
          record {
            width_is = wide;
            lines_is = l ∙ simp (lt-leb kind 1 (omega arith), lt-leb kind 3 a, le-leb kind 5 b);
            next_is = n;
            small = omega arith;
          }

      pub rule_matrix : kind ≡ 6 → r.lines ≡ s.m * s.n → Ruled s kind r
      unfolding lines_of
      rule_matrix b l = record { width_is = wide; lines_is = l ∙ rw b; next_is = n; small = omega arith }

      pub rule_none : kind ≡ 7 → r.lines ≡ 0 → Ruled s kind r
      unfolding lines_of
      rule_none b l = record { width_is = wide; lines_is = l ∙ rw b; next_is = n; small = omega arith }

-- ---- where a line leads
module _ (s : Counts) (c : Cursor) (r : Rule) (p : Stepping c r s) where
  pub behind_line_lem : 1 < c.left → record { kind = c.kind; left = c.left - 1; line = c.line + 1; pos = c.pos + (7 + 2 * r.width); at = c.at + r.width } ≡ behind_line s c
  unfolding behind_line
  behind_line_lem h =
      let q : c.pos + (7 + 2 * r.width) ≡ c.pos + line_length r.width = omega arith in
      rw (q, lt-ltb 1 c.left h, p.ruled.width_is)

  pub behind_last : c.left ≤ 1 → (t : Rule) → Ruled s r.next t → record { kind = r.next; left = t.lines; line = c.line + 1; pos = c.pos + (7 + 2 * r.width); at = c.at + r.width } ≡ behind_line s c
  unfolding behind_line
  behind_last h t e =
      let q : c.pos + (7 + 2 * r.width) ≡ c.pos + line_length r.width = omega arith in
      rw (q, le-ltb 1 c.left h, p.ruled.width_is, e.lines_is, p.ruled.next_is)

-- ---- the lines due

-- what is due where `left` lines of a kind are
abbrev pub rest_dues : Counts → ℕ → ℕ → List (ℕ × ℕ)
rest_dues s kind left = replicate left (kind, width_of s.k s.n kind) ++ dues_from s.k s.n s.m (6 - kind) (suc kind)

-- one line of the kind, and what is due after it
pub rest_line : (s : Counts) (kind left : ℕ) → 0 < left → rest_dues s kind left ≡ (kind, width_of s.k s.n kind) ∷ rest_dues s kind (left - 1)
rest_line s kind zero h = absurd (not-suc-le-zero h)
rest_line s kind (suc l) h = let q : suc l - 1 ≡ l = omega arith in rw q

-- no line of the kind: those of the next
pub rest_next : (s : Counts) (kind left : ℕ) → kind ≤ 6 → left ≡ 0 → rest_dues s kind left ≡ rest_dues s (kind + 1) (lines_of s.k s.n s.m (kind + 1))
unfolding dues_from lines_of
rest_next s kind left h z =
    rw z (⊎_elim (λ q. rw q) (λ l. let q : 6 - kind ≡ suc (6 - (kind + 1)) = omega arith in rw (q, add-one)) (eq-or-lt_of_le h))

pub rest_end : (s : Counts) (kind left : ℕ) → kind ≡ 7 → left ≡ 0 → rest_dues s kind left ≡ []
unfolding dues_from
rest_end s kind left q z = rw (z, q)

-- behind kind 06 there are no lines
pub lines_over : (s : Counts) (kind : ℕ) → kind ≡ 7 → lines_of s.k s.n s.m kind ≡ 0
unfolding lines_of
lines_over s kind q = rw q

-- each other kind has one
pub lines_some : (s : Counts) (kind : ℕ) → 1 ≤ s.k → 1 ≤ s.n → 1 ≤ s.m → kind ≤ 6 → 1 ≤ lines_of s.k s.n s.m kind
unfolding lines_of
lines_some s kind a b d h = go (leb kind 1) (leb kind 3) (leb kind 5)
  where
    go : (p q r : Bool) → 1 ≤ pick p 1 (pick q s.k (pick r 1 (pick (leb kind 6) (s.m * s.n) 0)))
    go true q r = omega arith
    go false true r = a
    go false false true = omega arith
    go false false false = rw (le-leb kind 6 h) (product d b)

-- ---- a sum over them

-- of a measure of each line's width
unfoldable pub sum_due : (ℕ → ℕ) → List (ℕ × ℕ) → ℕ
sum_due f [] = 0
sum_due f (d ∷ ds) = f d.1 + sum_due f ds

pub sum_replicate : (f : ℕ → ℕ) (l kind w : ℕ) (ds : List (ℕ × ℕ)) → sum_due f (replicate l (kind, w) ++ ds) ≡ l * f w + sum_due f ds
unfolding sum_due
sum_replicate f zero kind w ds = omega (arith, zero-mul (f w))
sum_replicate f (suc l) kind w ds = omega (arith, sum_replicate f l kind w ds, suc-mul l (f w))

-- their bytes
abbrev pub bytes_due : List (ℕ × ℕ) → ℕ
bytes_due ds = sum_due (λ w. w) ds

-- a chart's bytes are few enough
pub bytes_few : (s : Counts) → Few s → head_size + bytes_due (dues_from s.k s.n s.m 5 2) ≤ chart_most
unfolding sum_due dues_from lines_of width_of
bytes_few s f =
    simp (sum_replicate (λ w. w))
    (omega (arith, product {a = s.k} {b = s.k} {c = 16} {d = 16} f.grades f.grades, product {a = s.m * s.n} {b = s.n} {c = 384} {d = 24} (product {a = s.m} {b = s.n} {c = 16} {d = 24} f.letters f.states) f.states))
