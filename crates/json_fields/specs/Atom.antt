-- Atoms, each by the name of its one member.
use Rattle.std.specs.Prelude.{
  ℕ,
  ℤ,
  pos,
  neg_ℤ,
  int_le,
  List,
  [],
  ◌∷◌,
  ◌&&◌,
  if◌then◌else◌,
  codes,
  Option,
  Some,
  None,
  option_map,
  option_and_then,
}
use Rattle.std.specs.List.{find}
use Rattle.std.specs.Str.{bytes_eq}
use Rattle.serde_json.specs.Data.{Data}
use Rattle.serde_json.specs.Find.{get, as_bool, as_i64, as_number, as_str}
use Rattle.table_terms.specs.declared.vulnerability.Vulnerability.{Vulnerability}
use Rattle.table_terms.specs.declared.vulnerability.Vulnerability.TheVariants.{Neither, NorthSouth, EastWest, Both}
use Rattle.table_terms.specs.Vulnerability.{vulnerability_text}
use Rattle.json_fields.specs.Doubling.{doubling_numbered}
use Rattle.json_fields.specs.Field.{limited, small}
use Rattle.json_fields.specs.Form.{Form, Member, applied, form, ◌with◌, formed, has_only}
use Rattle.json_fields.specs.Letter.{place_named, strain_named}
use Rattle.json_fields.specs.Message.{declarer, strain}
use Rattle.query_filter.specs.declared.atom.Atom.{Atom}
use Rattle.query_filter.specs.declared.atom.Atom.TheVariants as atom
use Rattle.query_filter.specs.declared.bounds.Bounds.{Bounds}
use Rattle.query_filter.specs.declared.bounds.ScoreBounds.{ScoreBounds}

-- ---- the values of atoms

-- the marking whose text it is: `none`, `ns`, `ew` or `both`
abbrev pub marking_named : List ℕ → Option Vulnerability
marking_named text =
    find (λ marking. bytes_eq (vulnerability_text marking) text) (Neither ∷ NorthSouth ∷ EastWest ∷ Both ∷ [])

-- the bounds of levels and of tricks are 0 to 13
abbrev pub most : Member ℕ
most = limited (codes "max") 13

abbrev pub least : Member ℕ
least = limited (codes "min") 13

-- from the least to the most
abbrev pub bounds : Form Bounds
bounds = form [] (λ high low. record { min = low; max = high }) with most with least

-- a whole number from -10000 to 10000
abbrev pub score_within : Option ℤ → Option ℤ
score_within None = None
score_within (Some points) =
    if int_le (neg_ℤ (pos 10000)) points && int_le points (pos 10000) then Some points else None

-- the score that stands there
abbrev pub score_said : Option Data → Option ℤ
score_said o = score_within (option_and_then (λ d. option_and_then as_i64 (as_number d)) o)

-- from the least to the most, in points for North-South
abbrev pub score_bounds : Data → Option ScoreBounds
score_bounds d =
    if has_only (codes "max" ∷ codes "min" ∷ []) d
    then applied (applied (Some (λ high low. record { min = low; max = high })) (score_said (get (codes "max") d)))
    (score_said (get (codes "min") d))
    else None

-- a declarer, a strain, and between which bounds the tricks are
abbrev pub double_dummy_bounds : Form Atom
double_dummy_bounds =
    form [] (λ by high low x. atom.DoubleDummy by x (record { min = low; max = high }))
    with declarer with most with least with strain

-- ---- atoms

-- what an atom's one member says, by its name
unfoldable pub atom_called : List ℕ → Data → Option Atom
atom_called name d =
    if bytes_eq name (codes "vul")
    then option_map (λ x. atom.Vulnerability x) (option_and_then marking_named (as_str d))
    else if bytes_eq name (codes "dealer")
    then option_map (λ x. atom.Dealer x) (option_and_then place_named (as_str d))
    else if bytes_eq name (codes "level") then option_map (λ x. atom.Level x) (formed [] bounds d)
    else if bytes_eq name (codes "strain")
    then option_map (λ x. atom.Strain x) (option_and_then strain_named (as_str d))
    else if bytes_eq name (codes "doubled")
    then option_map (λ x. atom.Doubled x) (option_and_then doubling_numbered (small (Some d)))
    else if bytes_eq name (codes "made") then option_map (λ x. atom.Made x) (as_bool d)
    else if bytes_eq name (codes "score") then option_map (λ x. atom.Score x) (score_bounds d)
    else if bytes_eq name (codes "dd") then formed [] double_dummy_bounds d
    else None
