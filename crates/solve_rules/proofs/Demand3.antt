-- Demand 3 holds of every sheet that fits the limits, in all slices that fit.
use mathlib.Core.Path.{◌≡◌, sym, ap, ◌∙◌, subst}
use mathlib.Core.Bool.{true}
use mathlib.Core.Logic.{⊎_elim}
use mathlib.Core.List.{List, ◌++◌, map}
use Prim.Native.Nat.{ℕ, ◌≤◌}
use lib.IntN.{ℤ}
use lib.ListN.{length, take, drop, length-map}
use Rattle.prelude.specs.Order.{NoneBefore, Some, Lists}
use Rattle.prelude.proofs.Order.{each_map}
use Rattle.prelude.proofs.Ascending.{ascending-few}
use Rattle.clause_list.specs.ClauseList.{clauses_of, is_list, Satisfying}
use Rattle.clause_list.proofs.Laws.{list-some-variable}
use Rattle.sheet_rules.specs.Blocks.{sheet_of}
use Rattle.relational.specs.Cells.{cell_count}
use Rattle.relational.specs.Meaning.{Solution}
use Rattle.relational.proofs.Scopes.{within-size}
use Rattle.clauses_rules.specs.Whole.{words, variable_total, clause_total, word_total, read_back}
use Rattle.clauses_rules.specs.Matching.{ReadBackOnce}
use Rattle.clauses_rules.proofs.Theorems.{match, none, first, lists-read, all_read, listed}
use Rattle.clauses.specs.Answers.{list_after}
use Rattle.search_rules.specs.declared.Steps.{Steps}
use Rattle.search_rules.specs.declared.Position.{Position}
use Rattle.search_rules.specs.Rules.{State, values_of, settle, end_none}
use Rattle.search_rules.specs.Following.{first_step}
use Rattle.search_rules.specs.Reached.{Settles, Reached}
use Rattle.search_rules.proofs.Ranges.{Ranged, fine-list, ranged}
use Rattle.search_rules.proofs.Found.{settled-bits, found-satisfying}
use Rattle.search_rules.proofs.Reaching.{reached-lists, reached-all, reached-of-map}
use Rattle.search.specs.Answers.{found, search_run}
use Rattle.search.specs.Every.{Standing, EveryCall}
use Rattle.search.proofs.Outcomes.{runs, was-taken}
use Rattle.search.proofs.Theorems.{none-unsatisfiable, found_satisfies, found_first, spent_exactly}
use Rattle.search.proofs.ResumedTheorems as again
use Rattle.search.proofs.GoesBack.{goes_back_on, search-goes-back}
use Rattle.search.proofs.FollowingCalls.{following-calls}
use Rattle.search.proofs.Every.{taken-there, ends_there, every_call as calls, none-resumed}
use Rattle.solve_rules.specs.Answers.{read_bits, instance_after}
use Rattle.solve_rules.specs.Finding.{Slices, Finding, finding, searched_by}
use Rattle.solve_rules.specs.Smallest.{Smallest}
use Rattle.solve_rules.specs.Demand3 as d
use Rattle.solve_rules.specs.Demand3.{FitsLimits, FitSlices, ReadsBack, ReadsSolution, ReadsSmallest, Answered}
use Rattle.solve_rules.specs.Demand3.{ResumedAnswered, FollowedAnswered, EveryCase, Demanded, Demand3}
use Rattle.solve_rules.proofs.Findings.{Declined, Ran, called}
use Rattle.solve_rules.proofs.Calls.{counts, writes, writes-words, reads-back, instance-after, same-instance}

module _ (s : List ℕ) (lent : Slices) (h : FitsLimits s) (k : FitSlices s lent) where
  abbrev v : ℕ
  v = variable_total (sheet_of s)

  abbrev w : ℕ
  w = word_total (sheet_of s)

  abbrev written : List ℤ
  written = d.written s lent v w

  whole : written ≡ words (sheet_of s)
  whole = writes-words s h lent.list k.list

  -- an assignment satisfies the clauses as they are written exactly when it satisfies those of the sheet
  of-sheet : {a : List ℕ} → Satisfying v (clauses_of written) a → Satisfying v (clauses_of (words (sheet_of s))) a
  of-sheet {a} p = subst (λ (l : List ℤ). Satisfying v (clauses_of l) a) whole p

  as_written : {a : List ℕ} → Satisfying v (clauses_of (words (sheet_of s))) a → Satisfying v (clauses_of written) a
  as_written {a} p = subst (λ (l : List ℤ). Satisfying v (clauses_of l) a) (sym whole) p

  solves : (a : List ℕ) → Satisfying v (clauses_of written) a → Solution (sheet_of s) (read_back (sheet_of s) a)
  solves a p = (match s h.layout h.accepted).reads a (of-sheet p)

  -- read-back of values that, 3 taken as 0, are an assignment
  pub back : (values : List ℕ) → Satisfying v (clauses_of written) (map settle values)
      → ReadsBack s values lent.instance (read_bits (sheet_of s) values)
  back values p =
      reads-back s h values lent.instance (sym (length-map values settle) ∙ p.size)
      (solves (map settle values) p).within.bytes k.instance

  found-reads : (values : List ℕ) → Satisfying v (clauses_of written) (map settle values) → ReadsSolution s values lent.instance
  found-reads values p =
      record { instance = read_bits (sheet_of s) values; reads = back values p; solves = solves (map settle values) p }

  -- and of an assignment
  back-bits : (a : List ℕ) → Satisfying v (clauses_of written) a → ReadsBack s a lent.instance (read_back (sheet_of s) a)
  back-bits a p =
      let q = settled-bits a p.bits in
      subst (λ (b : List ℕ). ReadsBack s a lent.instance (read_back (sheet_of s) b)) q (back a (subst (Satisfying v (clauses_of written)) (sym q) p))

  reads : (a : List ℕ) → Satisfying v (clauses_of written) a → ReadsSolution s a lent.instance
  reads a p = record { instance = read_back (sheet_of s) a; reads = back-bits a p; solves = solves a p }

  -- what is read back from the first satisfying assignment is the smallest
  smallest : (values : List ℕ) → Satisfying v (clauses_of written) (map settle values)
      → NoneBefore (Satisfying v (clauses_of written)) (map settle values) → ReadsSmallest s values lent.instance
  smallest values p none_before instance r =
      subst (λ (i : List ℕ). Smallest (sheet_of s) i) (same-instance s values lent.instance _ _ (back values p) r)
      (first s h.layout h.accepted (map settle values) (of-sheet p) (λ b q. none_before b (as_written q)))

  once : (instance : List ℕ) → Solution (sheet_of s) instance
      → ReadBackOnce (Satisfying v (clauses_of written)) (d.Reads s lent v w) instance
  once instance p =
      let o = (match s h.layout h.accepted).once instance p in
      let q = as_written o.satisfying in
      record {
        assignment = o.assignment;
        satisfying = q;
        reads = subst (λ (i : List ℕ). ReadsBack s o.assignment lent.instance i) o.reads (back-bits o.assignment q);
        only = λ a r f. o.only a (of-sheet r) (same-instance s a lent.instance _ _ (back-bits a r) f);
      }

  pub is_list_ok : is_list v written ≡ true
  is_list_ok = ap (is_list v) whole ∙ listed s h.layout h.accepted h.few_variables h.few_words

  pub answered : (n : ℕ) → Answered s lent v w n
  answered n =
      record {
        taken = λ number e. was-taken (search_run written v n) number
            (sym (ap (λ o. o.answer) (runs written v lent.values lent.trail n is_list_ok k.values k.trail)) ∙ e);
        none_only = λ steps e. (none s h.layout h.accepted).0
            λ a p. none-unsatisfiable written v lent.values lent.trail n steps e a (as_written p);
        found_only = λ steps e. found-reads _ (found_satisfies written v lent.values lent.trail n steps e);
        found_first = λ steps e.
            smallest _ (found_satisfies written v lent.values lent.trail n steps e)
            (found_first written v lent.values lent.trail n steps e);
        spent_exactly = spent_exactly written v lent.values lent.trail n is_list_ok k.values k.trail;
        goes_back =
            let g = search-goes-back written v lent.values lent.trail n is_list_ok k.values k.trail in
            record { steps = g.0; reached = g.1 };
      }

  -- what read-back of the values that "found" left leaves
  pub found-instance : (n : ℕ) (steps : Steps) → (d.searched s lent v w n).answer ≡ found steps
      → instance_after s (take v (d.searched s lent v w n).values) lent.instance
      ≡ read_bits (sheet_of s) (take v (d.searched s lent v w n).values) ++ drop (cell_count (sheet_of s)) lent.instance
  found-instance n steps e =
      let values : List ℕ = take v (d.searched s lent v w n).values in
      let p = found_satisfies written v lent.values lent.trail n steps e in
      instance-after s h values lent.instance (sym (length-map values settle) ∙ p.size)
      (solves (map settle values) p).within.bytes k.instance

  -- states that are reached: the assignments that were given, and the instances read back from them
  in-range : Ranged v (clauses_of written)
  in-range = ranged v written (fine-list v written is_list_ok)

  abbrev Reached-with : List (List ℕ) → State → Type 0
  Reached-with = Reached (clauses_of written) v (d.Reads s lent v w)

  assigned : {instances : List (List ℕ)} {state : State} → Reached-with instances state
      → (given : List (List ℕ)) × Reached (clauses_of written) v Settles given state
      × (map (read_back (sheet_of s)) given ≡ instances)
  assigned =
      reached-of-map (clauses_of written) v (d.Reads s lent v w) (read_back (sheet_of s))
      (λ state e case r. same-instance s (values_of v state) lent.instance _ _
      (back (values_of v state) (found-satisfying (clauses_of written) v in-range state e)) r)

  some-variable : 1 ≤ v
  some-variable = list-some-variable v written is_list_ok

  lists : {instances : List (List ℕ)} {state : State} → Reached-with instances state
      → Lists (Solution (sheet_of s)) instances
  lists r =
      let a = assigned r in
      subst (Lists (Solution (sheet_of s))) a.2
      (lists-read s h.layout h.accepted a.0
      (subst (λ (l : List ℤ). Lists (Satisfying v (clauses_of l)) a.0) whole
      (reached-lists (clauses_of written) v in-range some-variable a.1)))

  all : {instances : List (List ℕ)} {state : State} → Reached-with instances state
      → first_step (clauses_of written) v state ≡ end_none
      → (i : List ℕ) → Solution (sheet_of s) i → Some (λ j. j ≡ i) instances
  all r e i p =
      let a = assigned r in
      subst (Some (λ j. j ≡ i)) a.2
      (all_read s h.layout h.accepted a.0
      (λ b q. reached-all (clauses_of written) v in-range some-variable a.1 e b (as_written q)) i p)

  every_call : EveryCall written v (d.Reads s lent v w) (Solution (sheet_of s))
  every_call = calls written v is_list_ok (d.Reads s lent v w) (Solution (sheet_of s)) (λ instances state r. lists r)
      (λ instances state r. all r)

  every_case : (instances : List (List ℕ)) (at : Standing) → d.Found s lent v w instances at
      → EveryCase s lent v w instances at
  every_case instances at here =
      let l = lists here.reached in
      let t = taken-there written v is_list_ok (d.Reads s lent v w) instances at here in
      record {
        few =
            ascending-few (cell_count (sheet_of s)) instances
            (each_map (Solution (sheet_of s)) (λ i. length i ≡ cell_count (sheet_of s))
            (λ i p. within-size (sheet_of s) i p.within.bytes) instances
            l.each)
            l.ascending;
        taken = λ n few. (t n few).taken;
        spent_exactly = λ n few. (t n few).spent_exactly;
        ends = ends_there written v is_list_ok (d.Reads s lent v w) instances at here;
      }

  resumes : (p : Position) (n : ℕ) → ResumedAnswered s lent v w p n
  resumes p n =
      record {
        none_only = λ g steps e. (none s h.layout h.accepted).0
            λ a q. again.none-unsatisfiable written v lent.values lent.trail p n g.steps steps g.reached e a
            (as_written q);
        all_found = λ instances here steps e.
            none-resumed written v (d.Reads s lent v w) (Solution (sheet_of s)) every_call instances
            (d.lent_at s lent v w p) n here steps e;
        found_only = λ steps e. found-reads _ (again.found_satisfies written v lent.values
            lent.trail p n steps e);
        found_first = λ g steps e.
            smallest _ (again.found_satisfies written v lent.values lent.trail p n steps e)
            (again.found_first written v lent.values lent.trail p n g.steps steps g.reached e);
        goes_back_on = λ g.
            let b = goes_back_on written v lent.values lent.trail p n g.steps g.reached in
            record { steps = b.0; reached = b.1 };
        taken = again.not_refused written v lent.values lent.trail p n is_list_ok k.values k.trail;
        spent_exactly = again.spent_exactly written v lent.values lent.trail p n is_list_ok k.values k.trail;
      }

  follows : (p : Position) (n : ℕ) → FollowedAnswered s lent v w p n
  follows p n =
      let t = following-calls.takes written v lent.values lent.trail p n is_list_ok k.values k.trail in
      let call = following-calls.calls written v lent.values lent.trail p n in
      record {
        none_only = λ g o steps e. (resumes p n).none_only g steps
            (sym (ap (λ r. r.outcome.answer) (call.as_resumed o)) ∙ e);
        found_only = λ steps e. found-reads _ (call.found_satisfies steps e);
        taken = λ d. (t d).taken;
        spent_exactly = λ d. (t d).spent_exactly;
      }

  -- `find` is not refused here
  finds : (n : ℕ)
      → ((finding s lent n).left.list ≡ list_after s lent.list)
      × (searched_by (finding s lent n) ≡ d.searched s lent v w n)
  finds n =
      ⊎_elim (λ (c : Declined s lent n). absurd (c.unfit h k))
      (λ (r : Ran s lent n). (ap (λ (f : Finding). f.left.list) r.is, ap searched_by r.is)) (called s lent n)

  demanded : Demanded s lent
  demanded =
      record {
        v = v;
        c = clause_total (sheet_of s);
        w = w;
        counted = counts s h;
        wrote = writes s h lent.list k.list;
        whole = whole;
        once = once;
        reads = reads;
        answers = answered;
        finds = finds;
        resumes = resumes;
        follows = follows;
        every_call = every_call;
        every_case = every_case;
      }

pub demand3 : Demand3
demand3 = demanded
