use Rattle.std.proofs.Common.{ap}
use lib.Dec.{leb}
use Rattle.instance_matrix.proofs.truths.apply_test.Goals as goal

pub returns-in-Lone : goal.returns-in-Lone
returns-in-Lone c = rw c.in-Lone.is (ap (λ n. leb n 1) c.count-n.ensures)
