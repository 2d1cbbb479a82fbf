-- The cases worked by hand, each one computation against the definitions. Assumes nothing.
use mathlib.Core.Path.{◌≡◌, refl}
use Rattle.paper.proofs.Figures.{definitions}
use Rattle.samples.specs.SampleCharts.{broken_tables, broken_due, short_charts, order_e, charts_tried, charts_due}
use Rattle.samples.specs.SampleBuilds.{backward_left, other_forwards, other_forwards_due, told_by_last, apart, apart_due, words_e, words_due, lent_e, backwards, backwards_due, builds_tried, builds_due}
use Rattle.samples.specs.SampleWalks.{steps, steps_due, grades, grades_due, sheets, walks_tried, walks_due}

pub samples_of_charts : charts_tried ≡ charts_due
unfolding definitions broken_tables broken_due short_charts order_e charts_tried charts_due
samples_of_charts = refl

pub samples_of_builds : builds_tried ≡ builds_due
unfolding definitions backward_left other_forwards other_forwards_due told_by_last apart apart_due words_e words_due lent_e backwards backwards_due builds_tried builds_due
samples_of_builds = refl

pub samples_of_walks : walks_tried ≡ walks_due
unfolding definitions steps steps_due grades grades_due sheets walks_tried walks_due
samples_of_walks = refl
