-- The library's copy into a part of a slice is the piece stored there.
use Rattle.std.proofs.Common.{refl, arith}
use Rattle.prelude.proofs.Stores.{put-between}
use Rattle.std.proofs.lemmas.Slice.{overwrites}
use Rattle.text.proofs.put_bytes.Goals as goal

pub returns : goal.returns
returns c = record { ends = refl; holds = grind (arith, overwrites, put-between) }
