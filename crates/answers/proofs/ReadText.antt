-- From what reading answered to the text that is due. Assumes nothing.
use Rattle.std.proofs.Common.{◌≡◌, List, ℕ, sym, ap, ◌∙◌}
use Rattle.std.specs.Prelude.{Result, Ok, Err}
use Rattle.replies.specs.declared.Refusal.{Refusal}
use Rattle.replies.specs.Replies.{said, written_said}
use Rattle.paper.specs.Builders.{blank}
use Rattle.pages.specs.Texts.{Filled, chart_most, read_chart, refusal_text}
use Rattle.pages.specs.Programs.{or_refusal, read_text, program}
use Rattle.replies.proofs.Said.{said_refuses}

module _ (make : List ℕ → List ℕ) (text : List ℕ) (w : Result ℕ Refusal) {buffer old : List ℕ} (zero : old ≡ blank chart_most)
    (e : ◌≡◌ {A = Filled} (record { reply = written_said w; buffer = buffer }) (read_chart text old)) where
  read_text_lem : program make text ≡ or_refusal (written_said w) (make buffer)
  unfolding program read_text
  read_text_lem = sym (ap (λ (f : Filled). or_refusal f.reply (make f.buffer)) (rw zero at e))

  pub read_refused : {why : Refusal} → w ≡ Err why → refusal_text (said why).0 ≡ program make text
  unfolding or_refusal
  read_refused {why} q = sym (read_text_lem ∙ rw (q, said_refuses why))

  pub read_made : {n : ℕ} → w ≡ Ok n → make buffer ≡ program make text
  unfolding or_refusal
  read_made q = sym (read_text_lem ∙ rw q)
