-- The text of a clause list in the DIMACS CNF format (document 01, "The finder program", case K1).
use Rattle.std.specs.Prelude.{List, [], ◌∷◌, ◌++◌, ℕ, suc, ℤ, pos, negsuc, length}
use Rattle.text.specs.Texts.{bytes_of, decimal}
use Rattle.clause_list.specs.ClauseList.{clauses_of}

-- a literal: its variable, after a minus where it says that the variable is false
unfoldable pub literal_text : ℤ → List ℕ
literal_text (pos n) = decimal n
literal_text (negsuc n) = bytes_of "-" ++ decimal (suc n)

-- a clause: its literals, separated by single spaces, closed by 0
unfoldable pub clause_line : List ℤ → List ℕ
clause_line [] = bytes_of "0\n"
clause_line (l ∷ ls) = literal_text l ++ (bytes_of " " ++ clause_line ls)

unfoldable pub clause_lines : List (List ℤ) → List ℕ
clause_lines [] = []
clause_lines (clause ∷ clauses) = clause_line clause ++ clause_lines clauses

-- `p cnf v c`: the number of variables, then the number of clauses
unfoldable pub header : ℕ → ℕ → List ℕ
header v c = bytes_of "p cnf " ++ (decimal v ++ (bytes_of " " ++ (decimal c ++ bytes_of "\n")))

unfoldable pub text_of : ℕ → List ℤ → List ℕ
text_of v ws = header v (length (clauses_of ws)) ++ clause_lines (clauses_of ws)
