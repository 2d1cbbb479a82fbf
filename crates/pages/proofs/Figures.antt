-- E's text and what the programs print of it, as document 01 states them, and the further cases: one computation against the
-- definitions. Assumes nothing.
use mathlib.Core.Path.{◌≡◌, refl}
use Rattle.paper.proofs.Figures.{definitions}
use Rattle.pages.specs.Frames.{hexed, framed, frame, digit_of, byte_at, digit_fits, frame_fits, payload_at, payload}
use Rattle.pages.specs.Texts.{lines_of, width_of, dues_from, dues, lines_from, lines_after, lines_of_text, chart_read, lines_read, read_chart, printed, row_line, table_text, print_table, refusal_text, print_refusal}
use Rattle.pages.specs.Programs.{or_refusal, built_text, forward_text, backward_text, read_text, program, nerode_makes, reduced_makes, brz_makes}
use Rattle.pages.specs.SampleTexts.{bytes_of, lines, text_e, printed_e, worked_e, stated_e, filled, lines_in_two, text13, readings, readings_due, printings, printed_nerode_e, printings_due, texts_tried, texts_due}

of_frames : Unit {0}
unfolding hexed framed frame digit_of byte_at digit_fits frame_fits payload_at payload
of_frames = tt

of_texts : Unit {0}
unfolding lines_of width_of dues_from dues lines_from lines_after lines_of_text chart_read lines_read read_chart printed row_line table_text print_table refusal_text print_refusal
of_texts = tt

of_programs : Unit {0}
unfolding or_refusal built_text forward_text backward_text read_text program nerode_makes reduced_makes brz_makes
of_programs = tt

of_samples : Unit {0}
unfolding bytes_of lines text_e printed_e worked_e stated_e filled lines_in_two text13 readings readings_due printings printed_nerode_e printings_due texts_tried texts_due
of_samples = tt

pub samples_of_texts : texts_tried ≡ texts_due
unfolding definitions of_frames of_texts of_programs of_samples
samples_of_texts = refl
