-- The joint table of document 01's marked cases: "Marked: K1. K2, .. These ten are shown in a joint table with one theorem over all its rows."
-- specs/Shown.antt says what is shown of a row, and proofs/Cases.antt has the theorem.
use Rattle.std.specs.Prelude.{List, [], ◌∷◌, ℕ, pred, ℤ, pos, negsuc, length, replicate}
use Prim.Native.String.{String}
use Rattle.clause_list.specs.Marked as list
use Rattle.instance.specs.Answers as check
use Rattle.search_rules.specs.Run.{tally}
use Rattle.search.specs.Answers.{Answer, found, none, spent}
use Rattle.solve_rules.specs.Answers as back

-- what is stated of a sheet that fits
pub record Fitting : Type 0 where
  -- reading accepts it with so many nodes, beside one sort and one relation
  pub nodes : ℕ
  -- the check of the row's instance
  pub check : check.Answer
  -- counting and writing answer the number of variables, of clauses and of words, and writing leaves these words
  pub variables : ℕ
  pub clauses : ℕ
  pub size : ℕ
  pub words : List ℤ
  -- the search of these words within the row's budget, with its forces, choices and turns, and the values and the trail that it leaves;
  -- ""found" keeps its 3s in the lent values" (document 02, Change 6)
  pub search : Answer
  pub values : List ℕ
  pub trail : List ℤ
  -- read-back of these values, and the instance that it leaves
  pub reading_back : back.Answer
  pub instance : List ℕ
  -- the clause text, whole, and what the finder prints
  pub text : String
  pub prints : String

-- a sheet fits, or each call that takes it answers the same number and changes nothing
pub data Stated : Type 0 where
  fitting : Fitting → Stated
  refusing : ℕ → String → Stated

pub record Row : Type 0 where
  pub sheet : List ℕ
  -- of the search and of `find`; the finder has its own
  pub budget : ℕ
  -- the instance that is checked
  pub checked : List ℕ
  pub stated : Stated

-- a literal -n
abbrev pub neg : ℕ → ℤ
neg n = negsuc (pred n)

-- "01 0001 02 0000 0004 01000000 0006 010000 160000 (one sort, one free set, "some")"
abbrev pub k1 : List ℕ
k1 =
    0x01
    ∷ 0x00 ∷ 0x01 ∷ 0x02
    ∷ 0x00 ∷ 0x00
    ∷ 0x00 ∷ 0x04 ∷ 0x01 ∷ 0x00 ∷ 0x00 ∷ 0x00
    ∷ 0x00 ∷ 0x06 ∷ 0x01 ∷ 0x00 ∷ 0x00 ∷ 0x16 ∷ 0x00 ∷ 0x00
    ∷ []

-- K1 with another scope, another mark and other nodes
abbrev pub one_set : ℕ → ℕ → List ℕ → List ℕ
one_set scope mark nodes = 1 ∷ 0 ∷ 1 ∷ scope ∷ 0 ∷ 0 ∷ 0 ∷ 4 ∷ 1 ∷ mark ∷ 0 ∷ 0 ∷ 0 ∷ length nodes ∷ nodes

-- "mark 2 in K1", "K2 with node (30, 1, 0)", ""at most one" in K1" and "closure at scope 1"
abbrev pub k2 : List ℕ
k2 = one_set 2 2 (1 ∷ 0 ∷ 0 ∷ 22 ∷ 0 ∷ 0 ∷ [])

abbrev pub k3 : List ℕ
k3 = one_set 2 2 (1 ∷ 0 ∷ 0 ∷ 22 ∷ 0 ∷ 0 ∷ 30 ∷ 1 ∷ 0 ∷ [])

abbrev pub k5 : List ℕ
k5 = one_set 2 0 (1 ∷ 0 ∷ 0 ∷ 24 ∷ 0 ∷ 0 ∷ [])

abbrev pub k6 : List ℕ
k6 = 1 ∷ 0 ∷ 1 ∷ 1 ∷ 0 ∷ 0 ∷ 0 ∷ 4 ∷ 2 ∷ 0 ∷ 0 ∷ 0 ∷ 0 ∷ 9 ∷ 1 ∷ 0 ∷ 0 ∷ 11 ∷ 0 ∷ 0 ∷ 22 ∷ 1 ∷ 0 ∷ []

-- what the table states of K1: "The finder prints `found 4` and `r0 01`. The list has 14 words."
abbrev k1-fits : Fitting
k1-fits =
    record {
      nodes = 2;
      check = check.yes;
      variables = 4;
      clauses = 5;
      size = 14;
      words = list.k1;
      search = found (tally 3 1 0);
      values = 1 ∷ 3 ∷ 1 ∷ 1 ∷ [];
      trail = pos 1 ∷ pos 4 ∷ neg 2 ∷ pos 3 ∷ [];
      reading_back = back.copied 2;
      instance = 0 ∷ 1 ∷ [];
      text = "p cnf 4 5\n1 0\n4 -2 0\n4 -3 0\n-4 2 3 0\n4 0\n";
      prints = "found 4\nr0 01\n";
    }

abbrev pub table : List Row
table =
    -- K1
    record { sheet = k1; budget = 1000000; checked = 0 ∷ 1 ∷ []; stated = fitting k1-fits }
    -- K2: "mark 2 in K1: 7 clauses, 20 words, found after 4"; the check of two elements
    ∷ record {
      sheet = k2;
      budget = 1000000;
      checked = 1 ∷ 1 ∷ [];
      stated =
          fitting
          record {
            nodes = 2;
            check = check.no;
            variables = 4;
            clauses = 7;
            size = 20;
            words = list.k2 (pos 4);
            search = found (tally 3 1 0);
            values = 1 ∷ 3 ∷ 1 ∷ 1 ∷ [];
            trail = pos 1 ∷ pos 4 ∷ neg 2 ∷ pos 3 ∷ [];
            reading_back = back.copied 2;
            instance = 0 ∷ 1 ∷ [];
            text = "p cnf 4 7\n1 0\n-2 -3 0\n2 3 0\n4 -2 0\n4 -3 0\n-4 2 3 0\n4 0\n";
            prints = "found 4\nr0 01\n";
          };
    }
    -- K3: "K2 with node (30, 1, 0): none after 4"; read-back of open values is an 11
    ∷ record {
      sheet = k3;
      budget = 1000000;
      checked = 0 ∷ 1 ∷ [];
      stated =
          fitting
          record {
            nodes = 3;
            check = check.no;
            variables = 4;
            clauses = 7;
            size = 20;
            words = list.k2 (neg 4);
            search = none (tally 4 0 0);
            values = 2 ∷ 2 ∷ 2 ∷ 2 ∷ [];
            trail = pos 0 ∷ pos 0 ∷ pos 0 ∷ pos 0 ∷ [];
            reading_back = back.refused 11;
            instance = [];
            text = "p cnf 4 7\n1 0\n-2 -3 0\n2 3 0\n4 -2 0\n4 -3 0\n-4 2 3 0\n-4 0\n";
            prints = "none 4\n";
          };
    }
    -- K4: "K1 with budget 3: spent 3"; the finder, with its own budget, prints what it prints for K1; a cell of 2 is an 11
    ∷ record {
      sheet = k1;
      budget = 3;
      checked = 0 ∷ 2 ∷ [];
      stated =
          fitting
          record {
            nodes = 2;
            check = check.refused 11;
            variables = 4;
            clauses = 5;
            size = 14;
            words = list.k1;
            search = spent (tally 2 1 0);
            values = 1 ∷ 3 ∷ 2 ∷ 1 ∷ [];
            trail = pos 1 ∷ pos 4 ∷ neg 2 ∷ pos 0 ∷ [];
            reading_back = back.refused 11;
            instance = [];
            text = k1-fits.text;
            prints = k1-fits.prints;
          };
    }
    -- K5: ""at most one" in K1: gate clauses (4, 2), (4, 3), (-4, -2, -3)"
    ∷ record {
      sheet = k5;
      budget = 1000000;
      checked = 1 ∷ 1 ∷ [];
      stated =
          fitting
          record {
            nodes = 2;
            check = check.no;
            variables = 4;
            clauses = 5;
            size = 14;
            words =
                pos 1 ∷ pos 1
                ∷ pos 2 ∷ pos 4 ∷ pos 2 ∷ pos 2 ∷ pos 4 ∷ pos 3 ∷ pos 3 ∷ neg 4 ∷ neg 2 ∷ neg 3
                ∷ pos 1 ∷ pos 4 ∷ [];
            search = found (tally 2 2 0);
            values = 1 ∷ 3 ∷ 3 ∷ 1 ∷ [];
            trail = pos 1 ∷ pos 4 ∷ neg 2 ∷ neg 3 ∷ [];
            reading_back = back.copied 2;
            instance = 0 ∷ 0 ∷ [];
            text = "p cnf 4 5\n1 0\n4 2 0\n4 3 0\n-4 -2 -3 0\n4 0\n";
            prints = "found 4\nr0 00\n";
          };
    }
    -- K6: "closure at scope 1: the matrix itself"; "some" of the closure of a relation
    ∷ record {
      sheet = k6;
      budget = 1000000;
      checked = 1 ∷ [];
      stated =
          fitting
          record {
            nodes = 3;
            check = check.yes;
            variables = 2;
            clauses = 2;
            size = 4;
            words = pos 1 ∷ pos 1 ∷ pos 1 ∷ pos 2 ∷ [];
            search = found (tally 2 0 0);
            values = 1 ∷ 1 ∷ [];
            trail = pos 1 ∷ pos 2 ∷ [];
            reading_back = back.copied 1;
            instance = 1 ∷ [];
            text = "p cnf 2 2\n1 0\n2 0\n";
            prints = "found 2\nr0 1\n";
          };
    }
    -- K7: "no bytes: 1"
    ∷ record { sheet = []; budget = 1000000; checked = []; stated = refusing 1 "refused 1\n" }
    -- K8: "scope 8 passes, 9 gives 4"
    ∷ record {
      sheet = one_set 8 0 (1 ∷ 0 ∷ 0 ∷ 22 ∷ 0 ∷ 0 ∷ []);
      budget = 1000000;
      checked = replicate 8 0;
      stated =
          fitting
          record {
            nodes = 2;
            check = check.no;
            variables = 10;
            clauses = 11;
            size = 38;
            words =
                pos 1 ∷ pos 1
                ∷ pos 2 ∷ pos 10 ∷ neg 2 ∷ pos 2 ∷ pos 10 ∷ neg 3 ∷ pos 2 ∷ pos 10 ∷ neg 4 ∷ pos 2 ∷ pos 10 ∷ neg 5
                ∷ pos 2 ∷ pos 10 ∷ neg 6 ∷ pos 2 ∷ pos 10 ∷ neg 7 ∷ pos 2 ∷ pos 10 ∷ neg 8 ∷ pos 2 ∷ pos 10 ∷ neg 9
                ∷ pos 9 ∷ neg 10 ∷ pos 2 ∷ pos 3 ∷ pos 4 ∷ pos 5 ∷ pos 6 ∷ pos 7 ∷ pos 8 ∷ pos 9
                ∷ pos 1 ∷ pos 10 ∷ [];
            search = found (tally 3 7 0);
            values = 1 ∷ 3 ∷ 3 ∷ 3 ∷ 3 ∷ 3 ∷ 3 ∷ 3 ∷ 1 ∷ 1 ∷ [];
            trail = pos 1 ∷ pos 10 ∷ neg 2 ∷ neg 3 ∷ neg 4 ∷ neg 5 ∷ neg 6 ∷ neg 7 ∷ neg 8 ∷ pos 9 ∷ [];
            reading_back = back.copied 8;
            instance = 0 ∷ 0 ∷ 0 ∷ 0 ∷ 0 ∷ 0 ∷ 0 ∷ 1 ∷ [];
            text = "p cnf 10 11\n1 0\n10 -2 0\n10 -3 0\n10 -4 0\n10 -5 0\n10 -6 0\n10 -7 0\n10 -8 0\n10 -9 0\n-10 2 3 4 5 6 7 8 9 0\n10 0\n";
            prints = "found 10\nr0 00000001\n";
          };
    }
    ∷ record { sheet = one_set 9 0 (1 ∷ 0 ∷ 0 ∷ 22 ∷ 0 ∷ 0 ∷ []); budget = 1000000; checked = replicate 9 0; stated = refusing 4 "refused 4\n" }
    -- K9: "a node naming itself: 6"
    ∷ record { sheet = one_set 2 0 (1 ∷ 0 ∷ 0 ∷ 22 ∷ 1 ∷ 0 ∷ []); budget = 1000000; checked = 0 ∷ 1 ∷ []; stated = refusing 6 "refused 6\n" }
    -- K10: "set joined with set: 7"
    ∷ record {
      sheet = one_set 2 0 (1 ∷ 0 ∷ 0 ∷ 8 ∷ 0 ∷ 0 ∷ 22 ∷ 1 ∷ 0 ∷ []);
      budget = 1000000;
      checked = 0 ∷ 1 ∷ [];
      stated = refusing 7 "refused 7\n";
    }
    ∷ []
