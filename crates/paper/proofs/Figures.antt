-- P1 to P13 as document 01 states them, and the near cases: each one computation against the definitions. Assumes nothing.
use mathlib.Core.Path.{◌≡◌, refl}
use Rattle.paper.specs.Lists.{both, all_below, least_fail, tabulate, joined, part, same_list, in_front}
use Rattle.paper.specs.Words.{after}
use Rattle.paper.specs.Chart.{letters, join, at_most, prod, grade_from, start_vec, end_vec, entry}
use Rattle.paper.specs.Check.{sizes_fit, head_fits, grade_fits, grades_fit, laws, law_at, law_at_two, law_at_one, law_holds, broken_law, broken_a, broken_b, broken_c, broken_at, shape_of, check_reply, chart_fits}
use Rattle.paper.specs.Vectors.{joins, row_term, row_entry, row_times, col_term, col_entry, times_col, combine_term, combine, vector_of, end_grade, grade_of, reverse_of, start_grade}
use Rattle.paper.specs.Numbering.{place, kept, expanded, explored, states, first_words}
use Rattle.paper.specs.Tables.{two_bytes, size_fits, next_fits, row_fits, table_fits, table_fits_chart, table_reply, step_reply, grade_reply, next_by, state_of, table_grade, letter_fits, bad_letter, word_reply, cap_of, cap_reply, state_after, reader_takes, reader_state, step_code, grade_code}
use Rattle.paper.specs.Constructions.{states_of, next_bytes, row_of, state_row, table_of, letter_key, reduced_key, reverse_states, first_row_at, first_row, row_after_at, row_after, row_grade, row_states}
use Rattle.paper.specs.Builders.{place_of, placed, vector_at, room_fits, forward_room, forward_built, forward, nerode, reduced, all_zeros, backward_room, backward_built, brzozowski}
use Rattle.paper.specs.Sheets.{line_at, line_state, line_vector, line_grade_fits, line_fits, sheet_fits, other_pair, on_sheet, grade_holds, next_holds, line_holds, bad_line, line_reply, sheet_reply}
use Rattle.paper.specs.Figures.{chart_e, table_e, sheet_e, chart32, chart2, chart13, reply, nerode_in, reduced_in, brz_in, count, worked, stated}
use Rattle.paper.specs.NearCases.{bare, unit_between, larger, larger_of_four, one_sided, one_sided_words, nines, forward_left, told_by_grade, forwards, nerode_e, vectors_e, forwards_due, places_left, last_line_fails, near_tried, near_due}

-- what opens the definitions of each file, for the computations below
of_lists : Unit {0}
unfolding both all_below least_fail tabulate joined part same_list in_front
of_lists = tt

of_words : Unit {0}
unfolding after
of_words = tt

of_chart : Unit {0}
unfolding letters join at_most prod grade_from start_vec end_vec entry
of_chart = tt

of_check : Unit {0}
unfolding sizes_fit head_fits grade_fits grades_fit laws law_at law_at_two law_at_one law_holds broken_law broken_a broken_b broken_c broken_at shape_of check_reply chart_fits
of_check = tt

of_vectors : Unit {0}
unfolding joins row_term row_entry row_times col_term col_entry times_col combine_term combine vector_of end_grade grade_of reverse_of start_grade
of_vectors = tt

of_numbering : Unit {0}
unfolding place kept expanded explored states first_words
of_numbering = tt

of_tables : Unit {0}
unfolding two_bytes size_fits next_fits row_fits table_fits table_fits_chart table_reply step_reply grade_reply next_by state_of table_grade letter_fits bad_letter word_reply cap_of cap_reply state_after reader_takes reader_state step_code grade_code
of_tables = tt

of_constructions : Unit {0}
unfolding states_of next_bytes row_of state_row table_of letter_key reduced_key reverse_states first_row_at first_row row_after_at row_after row_grade row_states
of_constructions = tt

of_builders : Unit {0}
unfolding place_of placed vector_at room_fits forward_room forward_built forward nerode reduced all_zeros backward_room backward_built brzozowski
of_builders = tt

of_sheets : Unit {0}
unfolding line_at line_state line_vector line_grade_fits line_fits sheet_fits other_pair on_sheet grade_holds next_holds line_holds bad_line line_reply sheet_reply
of_sheets = tt

of_figures : Unit {0}
unfolding chart_e table_e sheet_e chart32 chart2 chart13 reply nerode_in reduced_in brz_in count worked stated
of_figures = tt

of_near_cases : Unit {0}
unfolding bare unit_between larger larger_of_four one_sided one_sided_words nines forward_left told_by_grade forwards nerode_e vectors_e forwards_due places_left last_line_fails near_tried near_due
of_near_cases = tt

-- samples/ and pages/ open them too
unfoldable pub definitions : Unit {0}
unfolding of_lists of_words of_chart of_check of_vectors of_numbering of_tables of_constructions of_builders of_sheets of_figures of_near_cases
definitions = tt

pub figures : worked ≡ stated
unfolding definitions
figures = refl

pub near_cases : near_tried ≡ near_due
unfolding definitions
near_cases = refl
