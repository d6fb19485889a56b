-- A formula written as a list of signs, each before its members, from which it is read back. By this clauses tell one
-- formula from another.
use Rattle.std.specs.Prelude.{◌≡◌, ◌⊎◌, ℕ, zero, suc, List, [], ◌∷◌, ◌++◌}
use Rattle.std.specs.Coded.{Coded, code_by, coded_list, coded⊎, coded_ℕ}
use mathlib.Core.Logic.{inl, inr}
use Rattle.std.proofs.Common.{refl, ◌∙◌, ap, append_assoc}
use Rattle.std.proofs.lemmas.List.{append-nil}
use Rattle.query_filter.specs.contracts.atom.Atom as the_atom
use Rattle.query_filter.specs.declared.atom.Atom.{Atom}
use Rattle.query_filter.specs.Formula.{Formula, Is, Not, And, Or, Formulas, no_formula, formula_then}

-- an atom, or a number: 0 before the contrary of a formula, 1 before formulas of which each is to hold, 2 before
-- formulas of which some is, 3 for the end of a list, 4 before its first formula and the others
abbrev pub Sign : Type 0
Sign = Atom ⊎ ℕ

-- the signs of a formula
abbrev mutual
  pub signs : Formula → List Sign
  signs (Is atom) = inl atom ∷ []
  signs (Not other) = inr 0 ∷ signs other
  signs (And members) = inr 1 ∷ signs_of_all members
  signs (Or members) = inr 2 ∷ signs_of_all members

  pub signs_of_all : Formulas → List Sign
  signs_of_all no_formula = inr 3 ∷ []
  signs_of_all (formula_then f fs) = inr 4 ∷ (signs f ++ signs_of_all fs)

-- the formulas and the lists that were read, the last one first
abbrev pub Heap : Type 0
Heap = List Formula × List Formulas

-- what was read, and a formula
abbrev pub with_formula : Formula → Heap → Heap
with_formula f heap = (f ∷ heap.0, heap.1)

-- what was read, and a list
abbrev pub with_list : Formulas → Heap → Heap
with_list fs heap = (heap.0, fs ∷ heap.1)

-- the last formula or list that was read, put under a number
abbrev pub under : ℕ → List Formula → List Formulas → Heap
under zero (f ∷ fs) lists = (Not f ∷ fs, lists)
under (suc zero) fs (list ∷ lists) = (And list ∷ fs, lists)
under (suc (suc zero)) fs (list ∷ lists) = (Or list ∷ fs, lists)
under (suc (suc (suc zero))) fs lists = (fs, no_formula ∷ lists)
under (suc (suc (suc (suc n)))) (f ∷ fs) (list ∷ lists) = (fs, formula_then f list ∷ lists)
under zero [] lists = ([], lists)
under (suc zero) fs [] = (fs, [])
under (suc (suc zero)) fs [] = (fs, [])
under (suc (suc (suc (suc n)))) [] lists = ([], lists)
under (suc (suc (suc (suc n)))) (f ∷ fs) [] = (f ∷ fs, [])

-- one sign more, before those that were read
abbrev pub after_sign : Sign → Heap → Heap
after_sign (inl atom) heap = with_formula (Is atom) heap
after_sign (inr n) heap = under n heap.0 heap.1

-- what signs stand for, read from the last one on
abbrev pub heap_of : List Sign → Heap
heap_of [] = ([], [])
heap_of (sign ∷ signs) = after_sign sign (heap_of signs)

-- the formula that stands first
abbrev pub first : List Formula → Formula
first [] = And no_formula
first (f ∷ fs) = f

mutual
  pub heap_of-signs : (f : Formula) (rest : List Sign) → heap_of (signs f ++ rest) ≡ with_formula f (heap_of rest)
  heap_of-signs (Is atom) rest = refl
  heap_of-signs (Not other) rest = ap (after_sign (inr 0)) (heap_of-signs other rest)
  heap_of-signs (And members) rest = ap (after_sign (inr 1)) (heap_of-signs_of_all members rest)
  heap_of-signs (Or members) rest = ap (after_sign (inr 2)) (heap_of-signs_of_all members rest)

  pub heap_of-signs_of_all : (fs : Formulas) (rest : List Sign)
      → heap_of (signs_of_all fs ++ rest) ≡ with_list fs (heap_of rest)
  heap_of-signs_of_all no_formula rest = refl
  heap_of-signs_of_all (formula_then f fs) rest =
      ap (λ s. after_sign (inr 4) (heap_of s)) (append_assoc (signs f) (signs_of_all fs) rest)
      ∙ (ap (after_sign (inr 4)) (heap_of-signs f (signs_of_all fs ++ rest))
      ∙ ap (λ heap. after_sign (inr 4) (with_formula f heap)) (heap_of-signs_of_all fs rest))

-- the signs of a formula give it back
pub first-signs : (f : Formula) → first (heap_of (signs f)).0 ≡ f
first-signs f = rw (← append-nil (signs f)) (ap (λ heap. first heap.0) (heap_of-signs f []))

-- a formula is stored as its signs
abbrev pub formula_code : Coded Formula
formula_code =
    code_by (List Sign) (coded_list (coded⊎ the_atom.the_row.coded coded_ℕ))
    signs (λ s. first (heap_of s).0) first-signs
