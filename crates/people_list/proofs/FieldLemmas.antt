-- The field under a column's name, found place by place.
use Rattle.std.proofs.Common.{◌≡◌, ◌≤◌, ℕ, zero, suc, Bool, true, false, cond, List, [], ◌∷◌, length, drop, Some, None, refl, arith}
use Rattle.std.proofs.lemmas.Option.{same_Some}
use Rattle.std.specs.Str.{bytes_eq}
use Rattle.csv.specs.Records.{field_at}
use Rattle.people_list.specs.Fields.{under_column, named_at}

under_nil : (columns : List (List ℕ)) (name : List ℕ) → under_column columns [] name ≡ []
under_nil [] name = refl
under_nil (column ∷ columns) name = refl

chosen : (same : Bool) (field rest found : List ℕ) → cond same (Some field) None ≡ Some found → cond same field rest ≡ found
chosen true field rest found h = same_Some field found h
chosen false field rest found h = absurd (cc)

passed_over : (same : Bool) (field rest : List ℕ) → cond same (Some field) None ≡ None → cond same field rest ≡ rest
passed_over true field rest h = absurd (cc)
passed_over false field rest h = refl

-- an empty row has no field
none_in_nil : (columns : List (List ℕ)) (name : List ℕ) (place : ℕ) (field : List ℕ)
    → named_at columns [] name place ≡ Some field → ⊥
unfolding field_at
none_in_nil [] name zero field h = absurd (cc)
none_in_nil [] name (suc place) field h = absurd (cc)
none_in_nil (column ∷ columns) name zero field h = absurd (cc)
none_in_nil (column ∷ columns) name (suc place) field h = none_in_nil columns name place field h

-- where the column at a place has the name, its field is the one
pub found_here : (columns row : List (List ℕ)) (name : List ℕ) (place : ℕ) (field : List ℕ)
    → named_at columns row name place ≡ Some field → under_column (drop place columns) (drop place row) name ≡ field
unfolding field_at
found_here [] row name zero field h = absurd (cc)
found_here [] row name (suc place) field h = absurd (cc)
found_here (column ∷ columns) [] name zero field h = absurd (cc)
found_here (column ∷ columns) (one ∷ row) name zero field h =
    chosen (bytes_eq column name) one (under_column columns row name) field h
found_here (column ∷ columns) [] name (suc place) field h = absurd (none_in_nil columns name place field h)
found_here (column ∷ columns) (one ∷ row) name (suc place) field h = found_here columns row name place field h

-- where it hasn't, the field is one of those behind it
pub found_on : (columns row : List (List ℕ)) (name : List ℕ) (place : ℕ) → named_at columns row name place ≡ None
    → under_column (drop place columns) (drop place row) name ≡ under_column (drop (suc place) columns) (drop (suc place) row) name
unfolding field_at
found_on [] row name zero h = refl
found_on [] row name (suc place) h = refl
found_on (column ∷ columns) [] name zero h = rw (under_nil columns name) refl
found_on (column ∷ columns) (one ∷ row) name zero h = passed_over (bytes_eq column name) one (under_column columns row name) h
found_on (column ∷ columns) [] name (suc place) h =
    rw (under_nil (drop place columns) name, under_nil (drop (suc place) columns) name) refl
found_on (column ∷ columns) (one ∷ row) name (suc place) h = found_on columns row name place h

-- behind the last column there is none
pub found_none : (columns row : List (List ℕ)) (name : List ℕ) (place : ℕ) → length columns ≤ place
    → under_column (drop place columns) row name ≡ []
found_none [] row name zero past = refl
found_none [] row name (suc place) past = refl
found_none (column ∷ columns) row name zero past = absurd (omega (arith, past))
found_none (column ∷ columns) row name (suc place) past = found_none columns row name place (omega (arith, past))
