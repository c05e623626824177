-- What is shown of a row of the table: what reading, the check, counting, writing, search, read-back, clause text, `find`, `cnf` and the finder
-- answer, and what they leave in every slice that is lent.
use Rattle.std.specs.Prelude.{◌≡◌, List, [], ◌++◌, ℕ, ℤ, pos, length, take, drop, replicate}
use Rattle.prelude.specs.Order.{Each}
use Rattle.text.specs.Texts.{bytes_of}
use Rattle.sheet_rules.specs.declared.Layout.{Layout}
use Rattle.sheet_rules.specs.Reading.{Answer, accepted, refused, reading}
use Rattle.relational.specs.Cells.{most_cells}
use Rattle.instance.specs.Answers as check
use Rattle.instance.specs.Held.{check_answer}
use Rattle.clauses.specs.Answers as count
use Rattle.clauses.specs.Answers.{fits, count_answer, write_answer, list_after}
use Rattle.dimacs.specs.Answers as text
use Rattle.dimacs.specs.Answers.{size_answer, text_after}
use Rattle.search.specs.Answers.{Outcome, outcome}
use Rattle.solve_rules.specs.Answers as back
use Rattle.solve_rules.specs.Answers.{read_back_answer, instance_after}
use Rattle.solve_rules.specs.Finding.{Slices, slices, Finding, finding, decline}
use Rattle.report.specs.Printed.{finder_budget, finding_text, slices_after}
use Rattle.cnf_text.specs.Printed.{clause_text, list_left}
use Rattle.marked.specs.Table as table
use Rattle.marked.specs.Table.{Stated, Row}

-- what is lent: a list of 40 words, 12 values and 12 trail words, an instance of 10 bytes, a text of 300 bytes
abbrev pub lent : Slices
lent = slices (replicate 40 (pos 99)) (replicate 12 9) (replicate 12 (pos 99)) (replicate 10 9)

abbrev pub lent_text : List ℕ
lent_text = replicate 300 9

-- what the finder lends: "with 16,384 clause words", and room for all variables and cells that there can be
abbrev pub finder_lent : Slices
finder_lent = slices (replicate 16384 (pos 0)) (replicate 16000 0) (replicate 16000 (pos 0)) (replicate most_cells 0)

-- the calls that take a sheet, and what `cnf` and the finder print for it
pub record Calls : Type 0 where
  pub reading : Answer
  pub checking : check.Answer
  pub counting : count.Answer
  pub writing : count.Answer
  pub list : List ℤ
  pub reading_back : back.Answer
  pub instance : List ℕ
  pub find : Finding
  pub cnf : List ℕ
  pub finder : List ℕ

-- the calls that take a clause list
pub record ListCalls : Type 0 where
  pub search : Outcome
  pub sizing : text.Answer
  pub texting : text.Answer
  pub text : List ℕ

pub data Shown : Type 0 where
  -- a sheet that fits, and its clauses
  fitting : Calls → ListCalls → Shown
  -- a sheet that is refused, so that there is no list to search, with the list that `cnf` leaves and the slices that the finder leaves
  declining : Calls → List ℤ → Slices → Shown

-- the calls of a row, where read-back gets some values
abbrev pub calls : Row → List ℕ → Calls
calls row values =
    let s = row.sheet in
    record {
      reading = reading s;
      checking = check_answer s row.checked;
      counting = count_answer s;
      writing = write_answer s lent.list;
      list = list_after s lent.list;
      reading_back = read_back_answer s values lent.instance;
      instance = instance_after s values lent.instance;
      find = finding s lent row.budget;
      cnf = clause_text s lent.list;
      finder = finding_text finder_budget s finder_lent;
    }

-- search and clause text get exactly the words written and the v that counting answers, read-back the values that the search left
abbrev pub shown_after : count.Answer → Row → Shown
shown_after (count.fits v c w) row =
    let ws = take w (list_after row.sheet lent.list) in
    let searched = outcome ws v lent.values lent.trail row.budget in
    fitting (calls row (take v searched.values))
    record { search = searched; sizing = size_answer v ws; texting = text.write_answer v ws lent_text; text = text_after v ws lent_text }
shown_after (count.refused n) row =
    declining (calls row []) (list_left row.sheet lent.list) (slices_after finder_budget row.sheet finder_lent)

abbrev pub shown : Row → Shown
shown row = shown_after (count_answer row.sheet) row

-- what stands in front of a slice, and after it what was lent
abbrev front : {A : Type 0} → List A → List A → List A
front xs lent = xs ++ drop (length xs) lent

-- one sort, no variable, one relation and n nodes: where the records of each block start, and how many there are
abbrev layout : ℕ → Layout
layout n =
    record {
      sorts = record { start = 3; count = 1 };
      variables = record { start = 6; count = 0 };
      relations = record { start = 8; count = 1 };
      nodes = record { start = 14; count = n };
    }

-- what a row states, in full: words, values, trail, instance and text stand in front of what was lent
abbrev pub in_full : Stated → Shown
in_full (table.fitting f) =
    let size = fits f.variables f.clauses f.size in
    let list = front f.words lent.list in
    let values = front f.values lent.values in
    let trail = front f.trail lent.trail in
    let instance = front f.instance lent.instance in
    let text_size = text.bytes (length (bytes_of f.text)) in
    fitting
    record {
      reading = accepted (layout f.nodes);
      checking = f.check;
      counting = size;
      writing = size;
      list = list;
      reading_back = f.reading_back;
      instance = instance;
      find = record { answer = f.search; left = slices list values trail instance };
      cnf = bytes_of f.text;
      finder = bytes_of f.prints;
    }
    record {
      search = record { answer = f.search; values = values; trail = trail };
      sizing = text_size;
      texting = text_size;
      text = front (bytes_of f.text) lent_text;
    }
-- a refusal: the number everywhere, and every slice as it was
in_full (table.refusing n prints) =
    declining
    record {
      reading = refused n;
      checking = check.refused n;
      counting = count.refused n;
      writing = count.refused n;
      list = lent.list;
      reading_back = back.refused n;
      instance = lent.instance;
      find = decline n lent;
      cnf = bytes_of prints;
      finder = bytes_of prints;
    }
    lent.list
    finder_lent

-- "These ten are shown in a joint table with one theorem over all its rows.": every row shows what it states
abbrev pub Marked : Type 0
Marked = Each (λ (row : Row). shown row ≡ in_full row.stated) table.table
