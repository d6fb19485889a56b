-- What a publisher has published and what is pending, and what it tells of that.
use Rattle.std.specs.Prelude.{ℕ, List, [], ◌∷◌, ◌++◌, length, nat_lt, if◌then◌else◌, refl}
use Rattle.std.specs.Coded.{Coded, code_by, coded×, coded_list, coded_ℕ}
use Rattle.session_commands.specs.declared.entry.Entry.{Entry}
use Rattle.session_commands.specs.contracts.entry.Entry as the_entry
use Rattle.displays.specs.Copies.{publications_code}
use Rattle.displays.specs.declared.publisher.TheConstants.{MOST_DISPLAYS}

-- how many places for displays a server has
abbrev pub most_places : ℕ
most_places = MOST_DISPLAYS

-- the publications, each as the list of its entries, and the entries that are still to be published
pub record Outgoing : Type 0 where
  pub published : List (List Entry)
  pub pending : List Entry

abbrev pub nothing_outgoing : Outgoing
nothing_outgoing = record { published = []; pending = [] }

-- once what is pending is published, as one publication
abbrev pub after_publishing : Outgoing → Outgoing
after_publishing outgoing = record { published = outgoing.published ++ outgoing.pending ∷ []; pending = [] }

-- what a receipt tells: the numbers of the first and the last entry of a publication, from 1, or twice 0, and all that
-- was published when it was written
pub record Receipted : Type 0 where
  pub first : ℕ
  pub last : ℕ
  pub published : List (List Entry)

abbrev pub receipted : ℕ → ℕ → List (List Entry) → Receipted
receipted first last published = record { first = first; last = last; published = published }

-- the longer of two lists of publications, or the first
abbrev pub longer : List (List Entry) → List (List Entry) → List (List Entry)
longer one other = if nat_lt (length one) (length other) then other else one

-- ---- how these are stored

abbrev pub outgoing_code : Coded Outgoing
outgoing_code =
    code_by (List (List Entry) × List Entry) (coded× publications_code (coded_list the_entry.the_row.coded))
    (λ l. (l.published, l.pending)) (λ p. record { published = p.0; pending = p.1 }) (λ _. refl)

abbrev pub receipted_code : Coded Receipted
receipted_code =
    code_by (ℕ × (ℕ × List (List Entry))) (coded× coded_ℕ (coded× coded_ℕ publications_code))
    (λ r. (r.first, (r.last, r.published))) (λ p. record { first = p.0; last = p.1.0; published = p.1.1 }) (λ _. refl)
