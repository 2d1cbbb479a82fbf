-- The programs read one byte more than the longest text: what is cut off of a longer input changes nothing that they print. Assumes nothing.
use Rattle.std.proofs.Common.{◌≡◌, List, ℕ, suc, ◌≤◌, ◌<◌, sym, ap, ◌∙◌, ◌⊎◌, inl, inr, arith, length, take, length-take-le, take_all}
use borrow.Author.Tests.{lt-leb}
use Rattle.pages.specs.Texts.{bad_line, text_most, lines_of_text, read_chart}
use Rattle.pages.specs.Programs.{read_text, program}
use Rattle.lists.proofs.Bound.{le_or_lt}

too_long : (text : List ℕ) → text_most < length text → lines_of_text text ≡ bad_line 0
unfolding lines_of_text
too_long text h = rw (lt-leb (length text) text_most h)

same_read : (text text' old : List ℕ) → lines_of_text text ≡ lines_of_text text' → read_chart text old ≡ read_chart text' old
unfolding read_chart
same_read text text' old e = rw e

pub cut_same : (make : List ℕ → List ℕ) (input : List ℕ) → program make (take (suc text_most) input) ≡ program make input
unfolding program
cut_same make input = go (le_or_lt (length input) (suc text_most))
  where
    go : (length input ≤ suc text_most) ⊎ (suc text_most < length input) → program make (take (suc text_most) input) ≡ program make input
    go (inl h) = rw (take_all _ _ h)
    go (inr h) =
        let cut : length (take (suc text_most) input) ≡ suc text_most = length-take-le (suc text_most) input (omega arith) in
        ap (λ f. read_text make f)
        (same_read _ _ _ (too_long (take (suc text_most) input) (omega (arith, cut)) ∙ sym (too_long input (omega arith))))
