-- Which facts a section has, and when two facts are one.
use Rattle.std.proofs.Common.{
  rules,
  ◌≡◌,
  ℕ,
  zero,
  suc,
  ◌+◌,
  ◌*◌,
  ◌<◌,
  ◌≤◌,
  Bool,
  true,
  false,
  List,
  [],
  ◌∷◌,
  ◌++◌,
  nat_eq,
  refl,
  sym,
  ap,
  ◌∙◌,
  arith,
  inl,
  inr,
  subst,
}
use Rattle.std.specs.Prelude.{cond, ◌&&◌, ◌||◌, map, filter, nat_le}
use Rattle.std.specs.List.{flat_map, list_any, range_with_len}
use Rattle.std.proofs.lemmas.Bool.{cases_Bool, cases_eq, eq-eqb, ne_eqb}
use Rattle.std.proofs.lemmas.List.Folds.{list_any-append}
use Rattle.movement.specs.declared.cell.Cell.{Cell}
use Rattle.movement.specs.Movement.{Section, IsSection, boards_of, has_board}
use Rattle.movement.specs.Row.{IsCellInRange}
use Rattle.movement.specs.Schedule.{is_scheduled}
use Rattle.movement.proofs.CellLemmas.{cell_in_range}
use Rattle.movement.proofs.ScheduleTests.{scheduled-cell}
use Rattle.denials.specs.Evidence.{denied_board, denied_table}
use Rattle.disclosure_rules.specs.declared.fact.Fact.{Fact}
use Rattle.disclosure_rules.specs.declared.fact.Fact.TheVariants as fact
use Rattle.session_queries.specs.Facts.{
  cell_on,
  cells_of_board,
  facts_of_cell,
  facts_of_board,
  boards,
  facts,
  kind_of,
  same_fact,
  has_table_on,
  has_place,
}

-- the fact of a kind, of a board and of a table
abbrev fact_by : ℕ → ℕ → ℕ → Fact
fact_by zero board table = fact.Public
fact_by (suc zero) board table = fact.Accounts
fact_by (suc (suc zero)) board table = fact.Hands board
fact_by (suc (suc (suc zero))) board table = fact.Analysis board
fact_by (suc (suc (suc (suc zero)))) board table = fact.Result (cell_on board table)
fact_by (suc (suc (suc (suc (suc zero))))) board table = fact.Play (cell_on board table)
fact_by (suc (suc (suc (suc (suc (suc zero)))))) board table = fact.Cost (cell_on board table)
fact_by (suc (suc (suc (suc (suc (suc (suc n))))))) board table = fact.Reason (cell_on board table)

-- each fact is that of its kind, board and table
fact_again : (a : Fact) → fact_by (kind_of a) (denied_board a) (denied_table a) ≡ a
fact_again fact.Public = refl
fact_again fact.Accounts = refl
fact_again (fact.Hands board) = refl
fact_again (fact.Analysis board) = refl
fact_again (fact.Result cell) = refl
fact_again (fact.Play cell) = refl
fact_again (fact.Cost cell) = refl
fact_again (fact.Reason cell) = refl

-- two facts that pass for one are one
pub same_fact_is : (a b : Fact) → same_fact a b ≡ true → a ≡ b
unfolding same_fact
same_fact_is a b same =
    let kind : kind_of a ≡ kind_of b = search rules in
    let board : denied_board a ≡ denied_board b = search rules in
    let table : denied_table a ≡ denied_table b = search rules in
    sym (fact_again a) ∙ ((λ i. fact_by (kind i) (board i) (table i)) ∙ fact_again b)

-- a fact is itself
pub same_fact_self : (a : Fact) → same_fact a a ≡ true
unfolding same_fact
same_fact_self a = search rules

-- whether a fact is among some
abbrev pub has_fact : List Fact → Fact → Bool
has_fact items asked = list_any (λ item. same_fact item asked) items

-- what is among the items of one element is among those of all
in_flat : {X Y : Type 0} (p : Y → Bool) (f : X → List Y) (q : X → Bool) →
    ((x : X) → q x ≡ true → list_any p (f x) ≡ true) →
    (xs : List X) → list_any q xs ≡ true → list_any p (flat_map f xs) ≡ true
in_flat p f q each [] there = absurd (cc)
in_flat p f q each (x ∷ xs) there =
    elim (cases_Bool (q x)) [
      | inl here ↦ list_any-append p (f x) (flat_map f xs) ∙ ap (λ b. b || list_any p (flat_map f xs)) (each x here)
      | inr other ↦
          list_any-append p (f x) (flat_map f xs)
          ∙ (ap (λ b. list_any p (f x) || b) (in_flat p f q each xs (sym (ap (λ b. b || list_any q xs) other) ∙ there))
          ∙ or_true (list_any p (f x)))
    ]
  where
    or_true : (b : Bool) → (b || true) ≡ true
    or_true true = refl
    or_true false = refl

-- a number of a range is in it
in_range : (first count k : ℕ) → first ≤ k → k < first + count → list_any (λ n. nat_eq n k) (range_with_len first count)
    ≡ true
in_range first zero k from below = absurd (omega (arith, from, below))
in_range first (suc count) k from below =
    elim (cases_eq first k) [
      | inl here ↦ ap (λ b. b || list_any (λ n. nat_eq n k) (range_with_len (first + 1) count)) (eq-eqb first k here)
      | inr other ↦
          ap (λ b. b || list_any (λ n. nat_eq n k) (range_with_len (first + 1) count)) (ne_eqb first k other)
          ∙ in_range (first + 1) count k (omega (arith, from, other)) (omega (arith, below))
    ]

-- a number that passes for another is it
number_is : (a b : ℕ) → nat_eq a b ≡ true → a ≡ b
number_is a b same = search rules

-- a board of the section is one of its boards
pub board_there : (section : Section) (board : ℕ) → has_board section board ≡ true → list_any (λ n. nat_eq n board)
    (boards section) ≡ true
board_there section board has =
    in_range 1 (boards_of section) board (search rules) (search rules)

-- what is kept and passes is there
kept_there : {X : Type 0} (p : X → Bool) (b : Bool) (x : X) (rest : List X) → b ≡ true → p x ≡ true →
    list_any p (cond b (x ∷ rest) rest) ≡ true
kept_there p b x rest keeps passes = ap (λ c. list_any p (cond c (x ∷ rest) rest)) keeps
    ∙ ap (λ c. c || list_any p rest) passes

-- what is among the rest stays there, whether one more is kept or not
still_there : {X : Type 0} (p : X → Bool) (b : Bool) (x : X) (rest : List X) → list_any p rest ≡ true →
    list_any p (cond b (x ∷ rest) rest) ≡ true
still_there p true x rest there = ap (λ c. p x || c) there ∙ or_true (p x)
  where
    or_true : (b : Bool) → (b || true) ≡ true
    or_true true = refl
    or_true false = refl
still_there p false x rest there = there

-- whether a cell is this one
abbrev is_cell : Cell → Cell → Bool
is_cell cell other = nat_eq other.table cell.table && nat_eq other.board cell.board

-- a cell that passes for another is it
cell_is : (cell other : Cell) → is_cell cell other ≡ true → other ≡ cell
cell_is cell other same =
    let table : other.table ≡ cell.table = search rules in
    let board : other.board ≡ cell.board = search rules in
    λ i. record { table = table i; board = board i }

-- a kept section has each table on a board that the table is scheduled to play
pub scheduled_there : (section : Section) (cell : Cell) → IsSection section → is_scheduled section cell ≡ true →
    has_table_on section cell ≡ true
scheduled_there section cell is_section scheduled =
    let range : IsCellInRange section cell =
    cell_in_range section cell is_section (scheduled-cell section cell scheduled) in
    search (range.from_table, range.to_table, range.from_board, range.to_board, rules)

module _ (section : Section) (cell : Cell) (has : has_table_on section cell ≡ true) where
  -- a table that the section has on a board is scheduled to play it
  pub has_scheduled : is_scheduled section cell ≡ true
  has_scheduled = search rules

  -- a scheduled cell is among those of its board at tables that have its own
  among : (tables : List ℕ) → list_any (λ n. nat_eq n cell.table) tables ≡ true →
      list_any (is_cell cell) (filter (is_scheduled section) (map (cell_on cell.board) tables)) ≡ true
  among [] there = absurd (cc)
  among (table ∷ tables) there =
      elim (cases_eq table cell.table) [
        | inl here ↦
            let own : cell_on cell.board table ≡ cell = λ i. record { table = here i; board = cell.board } in
            kept_there (is_cell cell) (is_scheduled section (cell_on cell.board table)) (cell_on cell.board table) rest
            (ap (is_scheduled section) own ∙ has_scheduled) (ap (is_cell cell) own ∙ itself)
        | inr other ↦
            still_there (is_cell cell) (is_scheduled section (cell_on cell.board table)) (cell_on cell.board table) rest
            (among tables
            (sym (ap (λ b. b || list_any (λ n. nat_eq n cell.table) tables) (ne_eqb table cell.table other))
            ∙ there))
      ]
    where
      rest : List Cell
      rest = filter (is_scheduled section) (map (cell_on cell.board) tables)

      itself : is_cell cell cell ≡ true
      itself = search rules

  -- a scheduled cell is one of its board's
  pub cell_there : list_any (is_cell cell) (cells_of_board section cell.board) ≡ true
  cell_there =
      among (range_with_len 1 section.tables)
      (in_range 1 section.tables cell.table from_table (omega (arith, to_table)))
    where
      from_table : 1 ≤ cell.table
      from_table = search rules

      to_table : cell.table ≤ section.tables
      to_table = search rules

  -- what is a fact of the cell is a fact of its board
  on_board : (asked : Fact) → has_fact (facts_of_cell cell) asked ≡ true → has_fact (facts_of_board section cell.board)
      asked ≡ true
  on_board asked own =
      last_of_three (same_fact (fact.Hands cell.board) asked) (same_fact (fact.Analysis cell.board) asked)
      (has_fact (flat_map facts_of_cell (cells_of_board section cell.board)) asked)
      (in_flat (λ item. same_fact item asked) facts_of_cell (is_cell cell)
      (λ other same. ap (λ c. has_fact (facts_of_cell c) asked) (cell_is cell other same) ∙ own)
      (cells_of_board section cell.board) cell_there)
    where
      last_of_three : (a b c : Bool) → c ≡ true → (a || (b || c)) ≡ true
      last_of_three true b c there = refl
      last_of_three false true c there = refl
      last_of_three false false c there = there

  -- its board is one of the section's
  board_has : has_board section cell.board ≡ true
  board_has = search rules

-- what is a fact of a board of the section is a fact of the section
of_section : (section : Section) (board : ℕ) (asked : Fact) → has_board section board ≡ true →
    has_fact (facts_of_board section board) asked ≡ true →
    has_fact (facts section) asked ≡ true
of_section section board asked has own =
    last_of_three (same_fact fact.Public asked) (same_fact fact.Accounts asked)
    (has_fact (flat_map (facts_of_board section) (boards section)) asked)
    (in_flat (λ item. same_fact item asked) (facts_of_board section) (λ n. nat_eq n board)
    (λ other same. ap (λ n. has_fact (facts_of_board section n) asked) (number_is other board same) ∙ own)
    (boards section) (board_there section board has))
  where
    last_of_three : (a b c : Bool) → c ≡ true → (a || (b || c)) ≡ true
    last_of_three true b c there = refl
    last_of_three false true c there = refl
    last_of_three false false c there = there

-- a fact whose place the section has is one of the section's
pub fact_there : (section : Section) (asked : Fact) → has_place section asked ≡ true → has_fact (facts section) asked ≡
    true
unfolding same_fact
fact_there section fact.Public has = refl
fact_there section fact.Accounts has = refl
fact_there section (fact.Hands board) has = of_section section board (fact.Hands board) has (search rules)
fact_there section (fact.Analysis board) has = of_section section board (fact.Analysis board) has (search rules)
fact_there section (fact.Result cell) has =
    of_section section cell.board (fact.Result cell) (board_has section cell has)
    (on_board section cell has (fact.Result cell) (search rules))
fact_there section (fact.Play cell) has =
    of_section section cell.board (fact.Play cell) (board_has section cell has)
    (on_board section cell has (fact.Play cell) (search rules))
fact_there section (fact.Cost cell) has =
    of_section section cell.board (fact.Cost cell) (board_has section cell has)
    (on_board section cell has (fact.Cost cell) (search rules))
fact_there section (fact.Reason cell) has =
    of_section section cell.board (fact.Reason cell) (board_has section cell has)
    (on_board section cell has (fact.Reason cell) (search rules))
