-- `search_index::weights::status` meets its contract. Assumes nothing.
use mathlib.Core.Path.{sym}
use Rattle.search_index.proofs.Weighing.{told-low, told-high}
use Rattle.search_index.proofs.WeightCode.{told-above}
use Rattle.search_index.proofs.weights.status.Goals as goal

pub returns-then-w-ge-MIXED : goal.returns-then-w-ge-MIXED
returns-then-w-ge-MIXED c = told-above _ c.if-w-ge-MIXED.true

pub returns-then-w-ge3 : goal.returns-then-w-ge3
returns-then-w-ge3 c = sym (told-high _ c.if-w-ge3.true c.if-w-ge-MIXED.false)

pub returns : goal.returns
returns c = sym (told-low _ c.if-w-ge3.false)
