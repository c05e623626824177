-- The papers' number of each refusal (document 01, "Answers that decline"; document 02).
use Rattle.std.specs.Prelude.{ℕ}
use Rattle.refusal.specs.declared.Refusal.{Refusal}
use Rattle.refusal.specs.declared.Refusal.TheVariants.{Version, Length, Count, Scope, Declaration, Node, Shape, Root, Walk}
use Rattle.refusal.specs.declared.Refusal.TheVariants.{Size, Cells, List, Short, State}

abbrev pub number_of : Refusal → ℕ
number_of Version = 1
number_of Length = 2
number_of Count = 3
number_of Scope = 4
number_of Declaration = 5
number_of Node = 6
number_of Shape = 7
number_of Root = 8
number_of Walk = 9
number_of Size = 10
number_of Cells = 11
number_of List = 12
number_of Short = 13
number_of State = 14
