-- The index of a clause list: where its clauses stand, the chains of the words that name a variable, the weights of the clauses.
-- No public contract reaches this file: nothing here needs belief.
use Rattle.std.specs.Prelude.{◌≡◌, cond, List, [], ◌∷◌, ℕ, zero, suc, ◌+◌, ◌-◌, ◌*◌, ◌/◌, ◌<◌, ◌≤◌, eqb, leb, ℤ, pos, negsuc, length, get_or, set}
use Rattle.clause_list.specs.ClauseList.{words_of}
use Rattle.search_rules.specs.Rules.{Truth, falsified, satisfied, unassigned, truth_of, negated, literal, place_of}
use Rattle.search_rules.specs.Inner.{Fine}
use Rattle.search_scan.specs.Seen.{Sight, conflicting, unit, neither, seen}

-- the words of the longest list that is indexed, and the variables of the widest
abbrev pub limit : ℕ
limit = 16384

abbrev pub clause_at : List (List ℤ) → ℕ → List ℤ
clause_at clauses c = get_or clauses c []

-- the word of a clause's count
unfoldable pub head_of : List (List ℤ) → ℕ → ℕ
head_of [] c = 0
head_of (clause ∷ clauses) zero = 0
head_of (clause ∷ clauses) (suc c) = suc (length clause + head_of clauses c)

-- a clause stands at a word
pub record IsHead (clauses : List (List ℤ)) (head : ℕ) : Type 0 where
  pub c : ℕ
  pub within : c < length clauses
  pub at : head ≡ head_of clauses c

-- word i is literal k of clause c, and names the variable at place p
pub record Spot (clauses : List (List ℤ)) (p i : ℕ) : Type 0 where
  pub c : ℕ
  pub k : ℕ
  pub within : c < length clauses
  pub inside : k < length (clause_at clauses c)
  pub names : place_of (get_or (clause_at clauses c) k (pos 0)) ≡ p
  pub word : i ≡ suc (head_of clauses c + k)

-- The chains: the latest word that names the variable at a place, from each word of a literal the one before it that names the same variable
-- (0 where there is none) and, beside it, its clause, each clause's head, the number of clauses.
abbrev pub first_at : List ℕ → ℕ → ℕ
first_at chains p = get_or chains p 0

abbrev pub link_at : List ℕ → ℕ → ℕ
link_at chains i = get_or chains (limit + 2 * i) 0

abbrev pub owner_at : List ℕ → ℕ → ℕ
owner_at chains i = get_or chains (limit + 1 + 2 * i) 0

abbrev pub head_at : List ℕ → ℕ → ℕ
head_at chains c = get_or chains (3 * limit + c) 0

abbrev pub count_at : List ℕ → ℕ
count_at chains = get_or chains (4 * limit) 0

abbrev pub chain_words : ℕ
chain_words = 4 * limit + 1

-- the chains of the words below a bound
pub record Chained (clauses : List (List ℤ)) (first link owner : ℕ → ℕ) (bound : ℕ) : Type 0 where
  pub owner_is : (p i : ℕ) (s : Spot clauses p i) → i < bound → owner i ≡ s.c
  pub last : (p i : ℕ) → Spot clauses p i → i < bound → i ≤ first p
  pub first_spot : (p : ℕ) → p < limit → 1 ≤ first p → Spot clauses p (first p) × (first p < bound)
  pub link_spot : (p i : ℕ) → Spot clauses p i → i < bound → 1 ≤ link i → Spot clauses p (link i)
  pub linked : (p i : ℕ) → Spot clauses p i → i < bound → link i < i
  pub gaps : (p i j : ℕ) → Spot clauses p i → i < bound → Spot clauses p j → j < i → j ≤ link i

-- chains with room, linked up to a bound
pub record Linked (clauses : List (List ℤ)) (chains : List ℕ) (bound : ℕ) : Type 0 where
  pub long : length chains ≡ chain_words
  pub chained : Chained clauses (first_at chains) (link_at chains) (owner_at chains) bound

-- the chains of a whole list
pub record Chains (clauses : List (List ℤ)) (chains : List ℕ) : Type 0 where
  pub short : length (words_of clauses) ≤ limit
  pub linked : Linked clauses chains (length (words_of clauses))
  pub size : count_at chains ≡ length clauses
  pub heads : (c : ℕ) → c < length clauses → head_at chains c ≡ head_of clauses c

-- a list with room in the chains
pub record Roomy (list : List ℤ) : Type 0 where
  pub v : ℕ
  pub fine : Fine v list
  pub few : v ≤ limit
  pub short : length list ≤ limit

-- no variable is named twice
abbrev pub Apart : List ℤ → Type 0
Apart clause = (j k : ℕ) → j < k → k < length clause → place_of (get_or clause j (pos 0)) ≡ place_of (get_or clause k (pos 0)) → ⊥

-- the weight of a literal
unfoldable pub literal_weight : Truth → ℕ
literal_weight falsified = 0
literal_weight unassigned = 1
literal_weight satisfied = 2

-- the weight of the literal that says that its variable, which has this byte, is true
unfoldable pub byte_weight : ℕ → ℕ
byte_weight x = literal_weight (truth_of x)

-- what a byte says of a literal of its variable
unfoldable pub byte_says : ℕ → ℤ → Truth
byte_says x (pos n) = truth_of x
byte_says x (negsuc n) = negated (truth_of x)

-- The weight of a clause: one more than its literals'. Where no variable is named twice, 1 is a conflict, 2 a unit clause, and all above are neither.
unfoldable pub weight_of : List ℕ → List ℤ → ℕ
weight_of values [] = 1
weight_of values (l ∷ clause) = literal_weight (literal values l) + weight_of values clause

-- the status of a clause
unfoldable pub status_code : Sight → ℕ
status_code conflicting = 1
status_code (unit l) = 2
status_code neither = 3

unfoldable pub status_of : List ℕ → List ℤ → ℕ
status_of values clause = status_code (seen values (clause ∷ []))

-- what stands for a clause that names a variable twice is above all weights
abbrev pub mixed : ℕ
mixed = 32768

-- the status that a weight tells; 0 stands for no clause
unfoldable pub told : ℕ → ℕ
told w = cond (leb mixed w) (w - mixed) (cond (leb 3 w) 3 w)

-- what stands for a clause: its weight where no variable is named twice, else its status
pub data Stands (values : List ℕ) (clause : List ℤ) (w : ℕ) : Type 0 where
  weighed : Apart clause → w ≡ weight_of values clause → Stands values clause w
  looked : w ≡ mixed + status_of values clause → Stands values clause w

-- what stood for a clause: its weight under these values, or a status of some values
pub data Stood (values : List ℕ) (clause : List ℤ) (w : ℕ) : Type 0 where
  was-weighed : Apart clause → w ≡ weight_of values clause → Stood values clause w
  was-looked : mixed ≤ w → Stood values clause w

-- Behind the weights: a flag for each block of 16 clauses, the number of false clauses, and a block that no unit clause is before.
abbrev pub blocks : ℕ
blocks = limit / 16

abbrev pub flag_at : List ℕ → ℕ → ℕ
flag_at weights b = get_or weights (limit + b) 0

abbrev pub falses_at : List ℕ → ℕ
falses_at weights = get_or weights (limit + blocks) 0

abbrev pub low_at : List ℕ → ℕ
low_at weights = get_or weights (limit + blocks + 1) 0

abbrev pub weight_words : ℕ
weight_words = limit + blocks + 2

-- a block's flag is up, and the search for a unit clause begins no later than there
abbrev pub Up : List ℕ → ℕ → Type 0
Up weights b = (flag_at weights b ≡ 1) × (low_at weights ≤ b)

-- 1 for what stands for a false clause
unfoldable pub one : ℕ → ℕ
one w = cond (eqb (told w) 1) 1 0

unfoldable pub falses_below : ℕ → (ℕ → ℕ) → ℕ
falses_below zero w = 0
falses_below (suc n) w = one (w n) + falses_below n w

-- the first n clauses: the block of each unit clause is up, and the false ones are counted
pub record Tallied (weights : List ℕ) (n : ℕ) : Type 0 where
  pub long : length weights ≡ weight_words
  pub flagged : (c : ℕ) → c < n → told (get_or weights c 0) ≡ 2 → Up weights (c / 16)
  pub counted : falses_at weights ≡ falses_below n (λ c. get_or weights c 0)

-- a block was raised
pub record Raised (weights : List ℕ) (b : ℕ) (weights' : List ℕ) : Type 0 where
  pub long : length weights' ≡ length weights
  pub weights_are : (d : ℕ) → d < limit → get_or weights' d 0 ≡ get_or weights d 0
  pub raised : Up weights' b
  pub kept : (d : ℕ) → d < blocks → Up weights d → Up weights' d
  pub falses_are : falses_at weights' ≡ falses_at weights

-- the block of a clause and the number of false clauses followed its status
pub record Noted (weights : List ℕ) (c old new : ℕ) (weights' : List ℕ) : Type 0 where
  pub long : length weights' ≡ length weights
  pub weights_are : (d : ℕ) → d < limit → get_or weights' d 0 ≡ get_or weights d 0
  pub raised : new ≡ 2 → Up weights' (c / 16)
  pub kept : (b : ℕ) → b < blocks → Up weights b → Up weights' b
  pub counted : falses_at weights' + cond (eqb old 1) 1 0 ≡ falses_at weights + cond (eqb new 1) 1 0

-- something else stands for clause c
pub record Put (weights : List ℕ) (c w : ℕ) (weights' : List ℕ) : Type 0 where
  pub long : length weights' ≡ length weights
  pub here : get_or weights' c 0 ≡ w
  pub others : (d : ℕ) → d < limit → (d ≡ c → ⊥) → get_or weights' d 0 ≡ get_or weights d 0
  pub raised : told w ≡ 2 → (told (get_or weights c 0) ≡ 2 → ⊥) → Up weights' (c / 16)
  pub kept : (b : ℕ) → b < blocks → Up weights b → Up weights' b
  pub counted : falses_at weights' + one (get_or weights c 0) ≡ falses_at weights + one w

-- from `low` on there is no unit clause before r, and one at r where r is below m
pub record Stopped (weights : List ℕ) (low m r : ℕ) : Type 0 where
  pub passed : (c : ℕ) → low ≤ c → c < r → told (get_or weights c 0) ≡ 2 → ⊥
  pub found : r < m → told (get_or weights r 0) ≡ 2
  pub upto : r ≤ m

-- only what tells where unit clauses are was changed
pub record Same (weights weights' : List ℕ) : Type 0 where
  pub long : length weights' ≡ length weights
  pub weights_are : (c : ℕ) → c < limit → get_or weights' c 0 ≡ get_or weights c 0
  pub falses_are : falses_at weights' ≡ falses_at weights

-- the index of a list and of its values
pub record Indexed (clauses : List (List ℤ)) (values chains weights : List ℕ) : Type 0 where
  pub chains_are : Chains clauses chains
  pub few : length values ≤ limit
  pub right : (c : ℕ) → c < length clauses → Stands values (clause_at clauses c) (get_or weights c 0)
  pub tallied : Tallied weights (length clauses)

-- where there are no weights there is no index, and the list is scanned
pub data Watched (clauses : List (List ℤ)) (values chains weights : List ℕ) : Type 0 where
  unwatched : length weights ≡ 0 → Watched clauses values chains weights
  watched : Indexed clauses values chains weights → Watched clauses values chains weights

-- The byte of a variable was another: what the weights of its literals change by, and 2 more, of the negative literal and of the positive one.
pub record Gains (was is : ℕ) (gains : List ℕ) : Type 0 where
  pub long : length gains ≡ 2
  pub negative : get_or gains 0 0 + byte_weight is ≡ 2 + byte_weight was
  pub positive : get_or gains 1 0 + byte_weight was ≡ 2 + byte_weight is

-- a word whose clause is to be weighed anew, since the byte of the variable that it names was another
pub record Due (clauses : List (List ℤ)) (values gains : List ℕ) (i w : ℕ) : Type 0 where
  pub p : ℕ
  pub was : ℕ
  pub spot : Spot clauses p i
  pub stood : Stood (set values p was) (clause_at clauses spot.c) w
  pub changed : Gains was (get_or values p 0) gains
