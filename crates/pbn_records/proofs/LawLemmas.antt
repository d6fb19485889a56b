-- A text is read in one way at most.
use Rattle.std.proofs.Common.{
  ◌≡◌,
  ℕ,
  suc,
  ◌+◌,
  ◌-◌,
  ◌<◌,
  ◌≤◌,
  true,
  inl,
  inr,
  List,
  [],
  ◌∷◌,
  length,
  map,
  refl,
  sym,
  ap,
  subst,
  ◌∙◌,
  arith,
}
use Rattle.std.specs.Prelude.{Option, Some, None, slice_get, codes, bytes_eq, if◌then◌else◌}
use Rattle.std.specs.Char.{to_ascii_lowercase}
use Rattle.std.proofs.lemmas.Bool.{cases_Bool}
use Rattle.table_terms.specs.declared.place.Place.{Place}
use Rattle.table_terms.specs.declared.vulnerability.Vulnerability.{Vulnerability}
use Rattle.table_terms.specs.declared.vulnerability.Vulnerability.TheVariants.{Neither, NorthSouth, EastWest, Both}
use Rattle.cards.specs.Hands.{Hands, IsDeal}
use Rattle.table_terms.proofs.Law2Lemmas.{one_dealer, one_marking}
use Rattle.pbn_pieces.proofs.CutLemmas.{some_same, cut_once}
use Rattle.pbn_records.specs.declared.board.Board.{Board}
use Rattle.pbn_records.specs.declared.used.Used.TheVariants as used
use Rattle.pbn_records.specs.Tags.{Valued, without_mark}
use Rattle.pbn_records.specs.Values.{Values}
use Rattle.pbn_records.specs.MarkValue.{is_open, IsDealerValue, IsVulnerableValue, ReadsDealer, ReadsVulnerable}
use Rattle.pbn_records.specs.Boards.{first_game, HasDeal, IsRead}
use Rattle.pbn_records.specs.Reads.{start_of, values_from, Reads}
use Rattle.pbn_records.proofs.FaultLemmas.{same_has}
use Rattle.pbn_records.proofs.PartsLemmas.{place_at, place_again}

first_byte : List ℕ → ℕ
first_byte [] = 0
first_byte (byte ∷ bytes) = byte

one_letter : (value : List ℕ) (one other : Place) → IsDealerValue value one → IsDealerValue value other → one ≡ other
unfolding first_byte
one_letter value one other a b = sym (place_again one) ∙ ap place_at (ap first_byte (sym a ∙ b)) ∙ place_again other

one_reads_dealer : (board : ℕ) (tag : Option Valued) (one other : Place) → ReadsDealer board tag one →
    ReadsDealer board tag other → one ≡ other
one_reads_dealer board None one other a b = one_dealer board one other a b
one_reads_dealer board (Some tag) one other a b =
    elim (cases_Bool (is_open tag.value)) [
      | inl none ↦ one_dealer board one other (a.0 none) (b.0 none)
      | inr said ↦ one_letter tag.value one other (a.1 said) (b.1 said)
    ]

-- the marking of a word in small letters
marking_of : List ℕ → Vulnerability
marking_of word =
    if bytes_eq word (codes "ns") then NorthSouth
    else if bytes_eq word (codes "ew") then EastWest
    else if bytes_eq word (codes "all") then Both
    else if bytes_eq word (codes "both") then Both
    else Neither

marking_is : (value : List ℕ) (vulnerability : Vulnerability) → IsVulnerableValue value vulnerability →
    marking_of (map to_ascii_lowercase value) ≡ vulnerability
unfolding marking_of
marking_is value Neither (inl is) = ap marking_of is
marking_is value Neither (inr (inl is)) = ap marking_of is
marking_is value Neither (inr (inr is)) = ap marking_of is
marking_is value NorthSouth is = ap marking_of is
marking_is value EastWest is = ap marking_of is
marking_is value Both (inl is) = ap marking_of is
marking_is value Both (inr is) = ap marking_of is

one_reads_marking : (board : ℕ) (tag : Option Valued) (one other : Vulnerability) → ReadsVulnerable board tag one →
    ReadsVulnerable board tag other → one ≡ other
one_reads_marking board None one other a b = one_marking board one other a b
one_reads_marking board (Some tag) one other a b =
    elim (cases_Bool (is_open tag.value)) [
      | inl none ↦ one_marking board one other (a.0 none) (b.0 none)
      | inr said ↦ sym (marking_is tag.value one (a.1 said)) ∙ marking_is tag.value other (b.1 said)
    ]

one_board : (number : ℕ) (values : Values) (one other : Board) → IsRead number values one → IsRead number values other →
    one ≡ other
one_board number values one other a b = λ i. record {
  deal = same_has (values used.Deal) one.deal other.deal a.deal b.deal i;
  dealer = one_reads_dealer number (values used.Dealer) one.dealer other.dealer a.dealer b.dealer i;
  vulnerability = one_reads_marking number (values used.Vulnerable) one.vulnerability other.vulnerability
      a.vulnerability b.vulnerability i;
}

same_items : (one other : List Board) → length one ≡ length other →
    ((index : ℕ) → index < length one → slice_get one index ≡ slice_get other index) → one ≡ other
same_items [] [] e same = refl
same_items [] (b ∷ other) e same = absurd (omega (arith, e))
same_items (a ∷ one) [] e same = absurd (omega (arith, e))
same_items (a ∷ one) (b ∷ other) e same =
    λ i. some_same a b (same 0 (omega arith)) i ∷ same_items one other (omega (arith, e))
    (λ index h. same (suc index) (omega (arith, h))) i

pub one_reading : (text : List ℕ) (boards : ℕ) (one other : List Board) → Reads text boards one →
    Reads text boards other → one ≡ other
one_reading text boards one other a b =
    same_items one other (a.many ∙ sym b.many) (λ index h.
    let pieces = cut_once true a.pieces b.pieces (without_mark text) a.joined b.joined in
    let within : index + 1 ≤ boards = omega (arith, h, a.many) in
    let back : index + 1 - 1 ≡ index = omega arith in
    let x = a.read (index + 1) (omega arith) within in
    let y = b.read (index + 1) (omega arith) within in
    let values = some_same x.0 y.0 (sym x.2 ∙ ap (λ p. first_game boards (index + 1) (values_from (start_of text) p))
    pieces ∙ y.2) in
    let same = one_board (index + 1) x.0 x.1 y.1 x.4 (subst (λ (v : Values). IsRead (index + 1) v y.1) (sym values) y.4)
    in
    ap (slice_get one) (sym back) ∙ x.3 ∙ ap (λ (b : Board). Some b) same ∙ sym y.3 ∙ ap (slice_get other) back)

has_is_deal : (tag : Option Valued) (deal : Hands) → HasDeal tag deal → IsDeal deal
has_is_deal None deal has = absurd has
has_is_deal (Some tag) deal has = has.is.deal

pub read_deal : (text : List ℕ) (boards number : ℕ) (set : List Board) (board : Board) → Reads text boards set →
    1 ≤ number → number ≤ boards →
    slice_get set (number - 1) ≡ Some board → IsDeal board.deal
read_deal text boards number set board reads from to at =
    let x = reads.read number from to in
    subst (λ (b : Board). IsDeal b.deal) (some_same x.1 board (sym x.3 ∙ at))
    (has_is_deal (x.0 used.Deal) x.1.deal x.4.deal)
