-- No two commands are written alike.
use Rattle.std.proofs.Common.{
  ◌≡◌,
  ◌⊎◌,
  inl,
  inr,
  ℕ,
  zero,
  suc,
  ◌^◌,
  ◌<◌,
  ◌≤◌,
  List,
  [],
  ◌∷◌,
  codes,
  get_or,
  Option,
  Some,
  None,
  refl,
  sym,
  ap,
  subst,
  ◌∙◌,
  arith,
}
use Rattle.std.proofs.lemmas.Fmt.{decimal_injective}
use Rattle.std.proofs.lemmas.Option.{same_Some}
use Rattle.serde_json.specs.Data.{Data, string}
use Rattle.serde_json.specs.Find.{get}
use Rattle.table_terms.specs.declared.side.Side.{Side}
use Rattle.table_terms.specs.declared.side.Side.TheVariants.{NorthSouth, EastWest}
use Rattle.table_terms.specs.declared.pair.Pair.{Pair}
use Rattle.table_terms.specs.declared.place.Place.{Place}
use Rattle.table_terms.specs.Pair.{pair_text}
use Rattle.table_terms.specs.Place.{place_letter}
use Rattle.cards.specs.Hands.{Hands}
use Rattle.cards.specs.HandText.{deal_text}
use Rattle.cards.specs.HandReading.{IsDealText}
use Rattle.cards.proofs.DealReadingLemmas.{deal_reads, one_deal}
use Rattle.movement.specs.declared.cell.Cell.{Cell}
use Rattle.scoring.specs.declared.contract.Contract.{Contract}
use Rattle.session_commands.specs.declared.command.Command.{Command}
use Rattle.session_commands.specs.declared.command.Command.TheVariants as command
use Rattle.session_roles.specs.declared.edition.Edition.TheVariants.{Second}
use Rattle.solver_results.specs.PlayAnswer.{PlayedDeal}
use Rattle.json_fields.specs.Form.{Member, applied}
use Rattle.json_fields.specs.Field.{text_at}
use Rattle.json_fields.specs.Message.{table, board, declarer, strain}
use Rattle.json_fields.specs.User as user
use Rattle.json_fields.proofs.FormLemmas.{Agrees, numbered_agrees, named_agrees}
use Rattle.json_fields.proofs.LetterLemmas.{place_found, strain_found, place_reads, strain_reads}
use Rattle.json_fields.proofs.UserLemmas.{pair_agrees, place_agrees}
use Rattle.command_object.specs.Command.{command_of}
use Rattle.command_object.specs.Result.{doubled, level}
use Rattle.command_object.specs.Play as cards
use Rattle.command_object.proofs.MemberLemmas.{doubled_agrees, level_agrees, play_agrees}
use Rattle.command_writing.specs.FoundData.{contract_data}
use Rattle.command_writing.specs.CommandData.{command_data, solved_data, analysed_data}
use Rattle.command_writing.specs.Values.{IsContract}
use Rattle.command_writing.specs.Writable.{IsWritable, IsSendable}
use Rattle.command_writing.proofs.WrittenLemmas.{play_is, analysed_is, read_back}

-- a value in a member is the only one that stands there
told_by : {A : Type 0} (m : Member A) → Agrees m → (one other : Data) (x y : A) → m.Is (get m.name one) x
    → m.Is (get m.name other) y → one ≡ other → x ≡ y
told_by m agrees one other x y is also same =
    same_Some x y
    (sym (agrees.reads (get m.name one) x is)
    ∙ ap (λ d. m.value (get m.name d)) same
    ∙ agrees.reads (get m.name other) y also)

same_text : (name : List ℕ) (one other : Data) (text also : List ℕ) → text_at name one ≡ Some text
    → text_at name other ≡ Some also → one ≡ other → text ≡ also
same_text name one other text also is also_is same =
    same_Some text also (sym is ∙ ap (text_at name) same ∙ also_is)

same_deal : (one other : Hands) → deal_text one ≡ deal_text other → one ≡ other
same_deal one other same =
    one_deal one other (deal_text other) (subst (IsDealText one) same (deal_reads one)) (deal_reads other)

same_contract : (one other : Contract) → IsContract one → IsContract other → contract_data one ≡ contract_data other
    → one ≡ other
same_contract one other is also same =
    let by =
    told_by declarer (named_agrees _ _ _ place_reads place_found) _ _ one.declarer other.declarer refl refl same in
    let doubling = told_by doubled doubled_agrees _ _ one.doubling other.doubling refl refl same in
    let its_level = told_by level level_agrees _ _ one.level other.level
    (record { is = refl; least = is.0; most = is.1 }) (record { is = refl; least = also.0; most = also.1 }) same in
    let its_strain =
    told_by strain (named_agrees _ _ _ strain_reads strain_found) _ _ one.strain other.strain refl refl same in
    λ i. record { level = its_level i; strain = its_strain i; declarer = by i; doubling = doubling i }

-- ---- the commands that no client can send: a seat in a pair without a number, and the two of the solver's

abbrev unnumbered : Side → Pair
unnumbered side = record { side = side; number = 0 }

other_side : (m n : ℕ) → pair_text (record { side = NorthSouth; number = m })
    ≡ pair_text (record { side = EastWest; number = n }) → ⊥
other_side m n same = let letters : 78 ≡ 69 = ap (λ text. get_or text 0 0) same in omega (arith, letters)

same_side : (one other : Side) → pair_text (unnumbered one) ≡ pair_text (unnumbered other) → one ≡ other
same_side NorthSouth NorthSouth same = refl
same_side NorthSouth EastWest same = absurd (other_side 0 0 same)
same_side EastWest NorthSouth same = absurd (other_side 0 0 (sym same))
same_side EastWest EastWest same = refl

abbrev seat : List ℕ → Side → Place → Command
seat name side place = command.Seat name (unnumbered side) place

same_seat : (name also : List ℕ) (one other : Side) (p q : Place)
    → command_data (seat name one p) ≡ command_data (seat also other q) → seat name one p ≡ seat also other q
same_seat name also one other p q same =
    let names = same_text (codes "name") _ _ name also refl refl same in
    let sides = same_side one other
    (same_text (codes "pair") _ _ (pair_text (unnumbered one)) (pair_text (unnumbered other)) refl refl same) in
    let places = told_by user.place place_agrees _ _ p q refl refl same in
    λ i. seat (names i) (sides i) (places i)

same_solved : (m n : ℕ) (one other : Hands) → m < 256 → n < 256 → solved_data m one ≡ solved_data n other
    → command.Solved m one ≡ command.Solved n other
same_solved m n one other is also same =
    let boards = told_by board (numbered_agrees _) _ _ m n (record { is = refl; below = is })
    (record { is = refl; below = also }) same in
    let deals = same_deal one other (same_text (codes "deal") _ _ (deal_text one) (deal_text other) refl refl same) in
    λ i. command.Solved (boards i) (deals i)

same_analysed : (cell at : Cell) (one other : PlayedDeal) → IsWritable (command.Analysed cell one)
    → IsWritable (command.Analysed at other) → analysed_data cell one ≡ analysed_data at other
    → command.Analysed cell one ≡ command.Analysed at other
same_analysed cell at one other is also same =
    let first = analysed_is cell one is in
    let second = analysed_is at other also in
    let boards = told_by board (numbered_agrees _) _ _ cell.board at.board (record { is = refl; below = first.at.1 })
    (record { is = refl; below = second.at.1 }) same in
    let tables = told_by table (numbered_agrees _) _ _ cell.table at.table (record { is = refl; below = first.at.0 })
    (record { is = refl; below = second.at.0 }) same in
    let deals = same_deal one.deal other.deal
    (same_text (codes "deal") _ _ (deal_text one.deal) (deal_text other.deal) refl refl same) in
    let contracts = same_contract one.contract other.contract first.contract second.contract
    (same_Some _ _ (ap (get (codes "contract")) same)) in
    let plays =
    told_by cards.play play_agrees _ _ one.play other.play (play_is one.play first.cards)
    (play_is other.play second.cards) same in
    λ i. command.Analysed (record { table = tables i; board = boards i })
    (record { deal = deals i; contract = contracts i; play = plays i })

abbrev IsSeat : Command → Type 0
IsSeat c = (name : List ℕ) × (side : Side) × (place : Place) × (c ≡ seat name side place)

abbrev IsSolved : Command → Type 0
IsSolved c = (number : ℕ) × (deal : Hands) × (number < 256) × (c ≡ command.Solved number deal)

abbrev IsAnalysed : Command → Type 0
IsAnalysed c = (cell : Cell) × (played : PlayedDeal) × IsWritable (command.Analysed cell played)
    × (c ≡ command.Analysed cell played)

abbrev IsUnsent : Command → Type 0
IsUnsent c = IsSeat c ⊎ (IsSolved c ⊎ IsAnalysed c)

seat_numbered : (name : List ℕ) (pair : Pair) (place : Place) (number : ℕ) → pair.number ≡ number
    → IsSendable (command.Seat name pair place) ⊎ IsUnsent (command.Seat name pair place)
seat_numbered name pair place zero is =
    inr (inl (name, pair.side, place, λ i. command.Seat name (record { side = pair.side; number = is i }) place))
seat_numbered name pair place (suc number) is = inl (omega (arith, is))

sent_or_not : (c : Command) → IsWritable c → IsSendable c ⊎ IsUnsent c
sent_or_not (command.Seat name pair place) is = seat_numbered name pair place pair.number refl
sent_or_not (command.Solved number deal) is = inr (inr (inl (number, deal, is.0, refl)))
sent_or_not (command.Analysed cell played) is = inr (inr (inr (cell, played, is, refl)))
sent_or_not _ is = inl tt

-- ---- none of these is read as a client's

same_number : (side : Side) (m n : ℕ) → pair_text (record { side = side; number = m })
    ≡ pair_text (record { side = side; number = n }) → m < 2 ^ 64 → n < 2 ^ 64 → m ≡ n
same_number NorthSouth m n same small also = decimal_injective m n small also (cc)
same_number EastWest m n same small also = decimal_injective m n small also (cc)

other_number : (side also : Side) (number : ℕ) → 1 ≤ number → number ≤ 255
    → pair_text (unnumbered side) ≡ pair_text (record { side = also; number = number }) → ⊥
other_number NorthSouth NorthSouth number least most same =
    let zeros = same_number NorthSouth 0 number same (omega arith) (omega (arith, most)) in omega (arith, zeros, least)
other_number EastWest EastWest number least most same =
    let zeros = same_number EastWest 0 number same (omega arith) (omega (arith, most)) in omega (arith, zeros, least)
other_number NorthSouth EastWest number least most same = other_side 0 number same
other_number EastWest NorthSouth number least most same = other_side number 0 (sym same)

no_such_pair : (side : Side) (found : Option Pair)
    → user.pair.value (Some (string (pair_text (unnumbered side)))) ≡ found → found ≡ None
no_such_pair side None h = refl
no_such_pair side (Some other) h =
    let is = pair_agrees.read (Some (string (pair_text (unnumbered side)))) other h in
    absurd (other_number side other.side other.number is.least is.most
    (same_Some (pair_text (unnumbered side)) (pair_text other) is.is))

applied_none : {A B : Type 0} (make : Option (A → B)) → applied make None ≡ None
applied_none None = refl
applied_none (Some make) = refl

-- what is read of a seat's name, and of its place
abbrev named_seat : List ℕ → Option (Pair → Place → Command)
named_seat name = applied (Some (λ called q at. command.Seat called q at)) (user.user_name.value (Some (string name)))

abbrev place_there : Place → Option Place
place_there at = user.place.value (Some (string (place_letter at ∷ [])))

seat_unread : (name : List ℕ) (side : Side) (at : Place) → command_of Second (command_data (seat name side at)) ≡ None
unfolding command_of
seat_unread name side at =
    ap (λ found. applied (applied (named_seat name) found) (place_there at)) (no_such_pair side _ refl)
    ∙ ap (λ make. applied make (place_there at)) (applied_none (named_seat name))

solved_unread : (number : ℕ) (deal : Hands) → command_of Second (solved_data number deal) ≡ None
unfolding command_of
solved_unread number deal = refl

analysed_unread : (cell : Cell) (played : PlayedDeal) → command_of Second (analysed_data cell played) ≡ None
unfolding command_of
analysed_unread cell played = refl

unread : (c : Command) → IsUnsent c → command_of Second (command_data c) ≡ None
unread c (inl is) = ap (λ d. command_of Second (command_data d)) is.3 ∙ seat_unread is.0 is.1 is.2
unread c (inr (inl is)) = ap (λ d. command_of Second (command_data d)) is.3 ∙ solved_unread is.0 is.1
unread c (inr (inr is)) = ap (λ d. command_of Second (command_data d)) is.3 ∙ analysed_unread is.0 is.1

-- ---- two commands

seat_or_solved : (name : List ℕ) (side : Side) (place : Place) (number : ℕ) (deal : Hands)
    → command_data (seat name side place) ≡ solved_data number deal → ⊥
seat_or_solved name side place number deal same =
    let words = same_text (codes "cmd") _ _ (codes "Seat") (codes "Solved") refl refl same in absurd (cc)

seat_or_analysed : (name : List ℕ) (side : Side) (place : Place) (cell : Cell) (played : PlayedDeal)
    → command_data (seat name side place) ≡ analysed_data cell played → ⊥
seat_or_analysed name side place cell played same =
    let words = same_text (codes "cmd") _ _ (codes "Seat") (codes "Analysed") refl refl same in absurd (cc)

solved_or_analysed : (number : ℕ) (deal : Hands) (cell : Cell) (played : PlayedDeal)
    → solved_data number deal ≡ analysed_data cell played → ⊥
solved_or_analysed number deal cell played same =
    let words = same_text (codes "cmd") _ _ (codes "Solved") (codes "Analysed") refl refl same in absurd (cc)

between : (one other a b : Command) → one ≡ a → other ≡ b → command_data one ≡ command_data other
    → command_data a ≡ command_data b
between one other a b is also same = ap command_data (sym is) ∙ same ∙ ap command_data also

both_unsent : (one other : Command) → command_data one ≡ command_data other → IsUnsent one → IsUnsent other
    → one ≡ other
both_unsent one other same (inl a) (inl b) =
    a.3 ∙ same_seat a.0 b.0 a.1 b.1 a.2 b.2 (between one other _ _ a.3 b.3 same) ∙ sym b.3
both_unsent one other same (inl a) (inr (inl b)) =
    absurd (seat_or_solved a.0 a.1 a.2 b.0 b.1 (between one other _ _ a.3 b.3 same))
both_unsent one other same (inl a) (inr (inr b)) =
    absurd (seat_or_analysed a.0 a.1 a.2 b.0 b.1 (between one other _ _ a.3 b.3 same))
both_unsent one other same (inr (inl a)) (inl b) =
    absurd (seat_or_solved b.0 b.1 b.2 a.0 a.1 (between other one _ _ b.3 a.3 (sym same)))
both_unsent one other same (inr (inl a)) (inr (inl b)) =
    a.3 ∙ same_solved a.0 b.0 a.1 b.1 a.2 b.2 (between one other _ _ a.3 b.3 same) ∙ sym b.3
both_unsent one other same (inr (inl a)) (inr (inr b)) =
    absurd (solved_or_analysed a.0 a.1 b.0 b.1 (between one other _ _ a.3 b.3 same))
both_unsent one other same (inr (inr a)) (inl b) =
    absurd (seat_or_analysed b.0 b.1 b.2 a.0 a.1 (between other one _ _ b.3 a.3 (sym same)))
both_unsent one other same (inr (inr a)) (inr (inl b)) =
    absurd (solved_or_analysed b.0 b.1 a.0 a.1 (between other one _ _ b.3 a.3 (sym same)))
both_unsent one other same (inr (inr a)) (inr (inr b)) =
    a.3 ∙ same_analysed a.0 b.0 a.1 b.1 a.2 b.2 (between one other _ _ a.3 b.3 same) ∙ sym b.3

not_none : {A : Type 0} (x : A) → Some x ≡ None → ⊥
not_none x h = cc

by_cases : (one other : Command) → IsWritable one → IsWritable other → command_data one ≡ command_data other
    → IsSendable one ⊎ IsUnsent one → IsSendable other ⊎ IsUnsent other → one ≡ other
by_cases one other is also same (inl sent) (inl also_sent) =
    same_Some one other
    (sym (read_back one is sent) ∙ ap (command_of Second) same ∙ read_back other also also_sent)
by_cases one other is also same (inl sent) (inr unsent) =
    absurd (not_none one (sym (read_back one is sent) ∙ ap (command_of Second) same ∙ unread other unsent))
by_cases one other is also same (inr unsent) (inl sent) =
    absurd (not_none other (sym (read_back other also sent) ∙ ap (command_of Second) (sym same) ∙ unread one unsent))
by_cases one other is also same (inr a) (inr b) = both_unsent one other same a b

-- what is written tells the command
pub tells : (one other : Command) → IsWritable one → IsWritable other → command_data one ≡ command_data other
    → one ≡ other
tells one other is also same = by_cases one other is also same (sent_or_not one is) (sent_or_not other also)
