-- Where a reader's state stands, after a tag and after a game's end.
use Rattle.std.proofs.Common.{
  ◌≡◌,
  ◌≢◌,
  ℕ,
  Bool,
  true,
  false,
  ◌⊎◌,
  inl,
  inr,
  List,
  [],
  ◌∷◌,
  ◌++◌,
  refl,
  sym,
  ap,
  subst,
  ◌∙◌,
  append-nil,
  append_assoc,
}
use Rattle.std.specs.Prelude.{Result, Ok, Err, OnOk, IfErr, Option, Some, None, codes, bytes_eq, if◌then◌else◌}
use Rattle.std.specs.Option.{is_some, option_or}
use Rattle.std.proofs.lemmas.Bool.{true≢false, cases_Bool, cond_both}
use Rattle.std.proofs.lemmas.Slice.Eq.{bytes_eq-Decides}
use Rattle.pbn_pieces.proofs.CutLemmas.{some_same}
use Rattle.pbn_records.specs.declared.used.Used.{Used}
use Rattle.pbn_records.specs.declared.used.Used.TheVariants.{Board, Dealer, Vulnerable, Deal}
use Rattle.pbn_records.specs.declared.tag_at.TagAt.{TagAt}
use Rattle.pbn_records.specs.declared.fault.Fault.{Fault}
use Rattle.pbn_records.specs.declared.state.State.{State}
use Rattle.pbn_records.specs.declared.deals_error.DealsError.{DealsError}
use Rattle.pbn_records.specs.Tags.{Placed, Valued, Named, tag_name, used_of, tag_in, has_already}
use Rattle.pbn_records.specs.Values.{Values, inherited, read_value, valued, values_of}
use Rattle.pbn_records.specs.Faults.{IsFaultOf, HasFault}
use Rattle.pbn_records.specs.Shown.{as_written, tag_of, inheriting, as_read, values_read}
use Rattle.pbn_records.specs.Kept.{Walk, ended_walk, end_of, add_to, after_mark, Knows, IsGameFault}
use Rattle.pbn_records.specs.At.{has_tags, IsStateAfter, EndsInFault}

-- the names of the used tags
named_again : (used : Used) → used_of (tag_name used) ≡ Some used
named_again Board = refl
named_again Dealer = refl
named_again Vulnerable = refl
named_again Deal = refl

pub used_by_name : (name : List ℕ) (used : Used) → bytes_eq name (tag_name used) ≡ true → used_of name ≡ Some used
used_by_name name used e = ap used_of (bytes_are name (tag_name used) e) ∙ named_again used
  where
    bytes_are : (some other : List ℕ) → bytes_eq some other ≡ true → some ≡ other
    bytes_are some other e = (bytes_eq-Decides some other).0 e

abbrev IsNamed : List ℕ → Option Used → Type 0
IsNamed name None = Unit {0}
IsNamed name (Some used) = bytes_eq name (tag_name used) ≡ true

used_named : (name : List ℕ) → IsNamed name (used_of name)
used_named name =
    cond_both (bytes_eq name (codes "Board")) (Some Board) _ (IsNamed name) (λ e. e) (λ _.
    cond_both (bytes_eq name (codes "Dealer")) (Some Dealer) _ (IsNamed name) (λ e. e) (λ _.
    cond_both (bytes_eq name (codes "Vulnerable")) (Some Vulnerable) _ (IsNamed name) (λ e. e) (λ _.
    cond_both (bytes_eq name (codes "Deal")) (Some Deal) None (IsNamed name) (λ e. e) (λ _. tt))))

name_is : (name : List ℕ) (used : Used) → used_of name ≡ Some used → bytes_eq name (tag_name used) ≡ true
name_is name used e = subst (IsNamed name) e (used_named name)

-- one tag more
tag_in_more : (used : Used) (game : List Placed) (tag : Placed) → tag_in used (game ++ tag ∷ []) ≡ option_or
    (tag_in used game) (tag_in used (tag ∷ []))
tag_in_more used [] tag = refl
tag_in_more used (first ∷ game) tag =
    elim (cases_Bool (bytes_eq first.name (tag_name used))) [
      | inl is ↦
          ap (λ (b : Bool). if b then Some (record { offset = first.offset; value = first.value }) else tag_in used
          (game ++ tag ∷ [])) is
          ∙ sym (ap (λ (b : Bool). option_or (if b then Some (record { offset = first.offset; value = first.value })
          else tag_in used game) (tag_in used (tag ∷ []))) is)
      | inr isnt ↦
          ap (λ (b : Bool). if b then Some (record { offset = first.offset; value = first.value }) else tag_in used
          (game ++ tag ∷ [])) isnt
          ∙ tag_in_more used game tag
          ∙ sym (ap (λ (b : Bool). option_or (if b then Some (record { offset = first.offset; value = first.value })
          else tag_in used game) (tag_in used (tag ∷ []))) isnt)
    ]

or_none : (one : Option Valued) → option_or one None ≡ one
or_none None = refl
or_none (Some tag) = refl

tag_in_other : (used : Used) (game : List Placed) (tag : Placed) → bytes_eq tag.name (tag_name used) ≡ false →
    tag_in used (game ++ tag ∷ []) ≡ tag_in used game
tag_in_other used game tag isnt =
    tag_in_more used game tag
    ∙ ap (λ (b : Bool). option_or (tag_in used game) (if b then Some (record { offset = tag.offset; value = tag.value })
    else None)) isnt
    ∙ or_none (tag_in used game)

tag_in_new : (used : Used) (game : List Placed) (tag : Placed) → bytes_eq tag.name (tag_name used) ≡ true →
    tag_in used game ≡ None →
    tag_in used (game ++ tag ∷ []) ≡ Some (record { offset = tag.offset; value = tag.value })
tag_in_new used game tag is none =
    tag_in_more used game tag
    ∙ ap (λ found. option_or found (tag_in used (tag ∷ []))) none
    ∙ ap (λ (b : Bool). if b then Some (record { offset = tag.offset; value = tag.value }) else None) is

some_tags : (game : List Placed) (tag : Placed) → has_tags (game ++ tag ∷ []) ≡ true
some_tags [] tag = refl
some_tags (first ∷ game) tag = refl

pub put_at : (old new : State) (walk : Walk) (used : Used) (tag : Placed) → new.boards ≡ old.boards →
    new.known ≡ old.known →
    new.before ≡ old.before → new.started ≡ true → as_written (tag_of new.tags used) ≡ Some
    (record { offset = tag.offset; value = tag.value }) →
    ((other : Used) → other ≢ used → tag_of new.tags other ≡ tag_of old.tags other) →
    IsStateAfter old walk → used_of tag.name ≡ Some used → tag_in used walk.game ≡ None → IsStateAfter new
    (add_to walk tag)
put_at old new walk used tag boards known before started put others at is none = record {
  started = started ∙ sym (some_tags walk.game tag);
  tags = λ other. elim (cases_Bool (bytes_eq tag.name (tag_name other))) [
    | inl named ↦
        let same = some_same other used (sym (used_by_name tag.name other named) ∙ is) in
        subst (λ u. as_written (tag_of new.tags u) ≡ tag_in u (walk.game ++ tag ∷ [])) (sym same)
        (put ∙ sym (tag_in_new used walk.game tag (name_is tag.name used is) none))
    | inr apart ↦
        ap as_written
        (others other (λ e. true≢false (sym (name_is tag.name used is) ∙ ap (λ u. bytes_eq tag.name (tag_name u))
        (sym e) ∙ apart)))
        ∙ at.tags other ∙ sym (tag_in_other other walk.game tag apart)
  ];
  before = λ u. ap (λ before. values_read before u) before ∙ at.before u;
  known = (λ number. subst (λ (b : ℕ). Knows b walk.done new.known) (sym boards)
      (subst (λ map. Knows old.boards walk.done map) (sym known) at.known) number);
  faultless = subst (λ (b : ℕ). (fault : Fault) (offset : ℕ) → ¬ HasFault b [] walk.done fault offset) (sym boards)
      at.faultless;
}

no_used : (name : List ℕ) → used_of name ≡ None → (used : Used) → bytes_eq name (tag_name used) ≡ false
no_used name none used = elim (cases_Bool (bytes_eq name (tag_name used))) [
  | inl is ↦ absurd (true≢false (ap is_some (sym (used_by_name name used is) ∙ none)))
  | inr isnt ↦ isnt
]

-- a tag that isn't used
pub skip_at : (old new : State) (walk : Walk) (tag : Placed) → new.boards ≡ old.boards → new.known ≡ old.known →
    new.before ≡ old.before →
    new.started ≡ true → new.tags ≡ old.tags → used_of tag.name ≡ None → IsStateAfter old walk → IsStateAfter new
    (after_mark walk (Named tag))
skip_at old new walk tag boards known before started tags none at =
    subst (λ (b : Bool). IsStateAfter new (if b then add_to (end_of walk) tag else add_to walk tag))
    (sym (ap (has_already walk.game) none)) (record {
      started = started ∙ sym (some_tags walk.game tag);
      tags = λ used. ap (λ tags. as_written (tag_of tags used)) tags ∙ at.tags used
          ∙ sym (tag_in_other used walk.game tag (no_used tag.name none used));
      before = λ u. ap (λ before. values_read before u) before ∙ at.before u;
      known = subst (λ (b : ℕ). Knows b walk.done new.known) (sym boards) (subst (λ map. Knows old.boards walk.done map)
          (sym known) at.known);
      faultless = subst (λ (b : ℕ). (fault : Fault) (offset : ℕ) → ¬ HasFault b [] walk.done fault offset) (sym boards)
          at.faultless;
    })

shown_some : (tag : Option TagAt) → is_some (as_written tag) ≡ is_some tag
shown_some None = refl
shown_some (Some tag) = refl

pub has_it : (state : State) (walk : Walk) (used : Used) (name : List ℕ) → IsStateAfter state walk →
    used_of name ≡ Some used →
    has_already walk.game (used_of name) ≡ is_some (tag_of state.tags used)
has_it state walk used name at is =
    ap (has_already walk.game) is ∙ ap is_some (sym (at.tags used)) ∙ shown_some (tag_of state.tags used)

pub not_had : (state : State) (walk : Walk) (used : Used) → IsStateAfter state walk → is_some (tag_of state.tags used) ≡
    false → tag_in used walk.game ≡ None
not_had state walk used at isnt = none_of (tag_in used walk.game) (ap is_some (sym (at.tags used)) ∙ shown_some
    (tag_of state.tags used) ∙ isnt)
  where
    none_of : (found : Option Valued) → is_some found ≡ false → found ≡ None
    none_of None e = refl
    none_of (Some tag) e = absurd (true≢false e)

pub step_adds : (walk : Walk) (tag : Placed) → has_already walk.game (used_of tag.name) ≡ false → after_mark walk
    (Named tag) ≡ add_to walk tag
step_adds walk tag isnt = ap (λ (b : Bool). if b then add_to (end_of walk) tag else add_to walk tag) isnt

pub step_begins : (walk : Walk) (tag : Placed) → has_already walk.game (used_of tag.name) ≡ true → after_mark walk
    (Named tag) ≡ add_to (end_of walk) tag
step_begins walk tag is = ap (λ (b : Bool). if b then add_to (end_of walk) tag else add_to walk tag) is

pub ended_game : (done : List Values) (before : Values) (game : List Placed) → (ended_walk done before game).game ≡ []
ended_game done before [] = refl
ended_game done before (tag ∷ game) = refl

-- the end of a game
inherit_read : (before tag : Option Valued) → as_read (inheriting before tag) ≡ valued (as_read before) tag
inherit_read before None = refl
inherit_read before (Some tag) = by_hash before (bytes_eq tag.value (codes "#")) refl
  where
    by_hash : (before : Option Valued) (b : Bool) → bytes_eq tag.value (codes "#") ≡ b →
        as_read (if b then inherited tag.offset before else Some tag) ≡ (if b then inherited tag.offset (as_read before)
        else Some (record { offset = tag.offset; value = read_value tag.value }))
    by_hash None true e = refl
    by_hash (Some other) true e = refl
    by_hash before false e = refl

fault_in : (boards : ℕ) (before games : List Values) (values : Values) (fault : Fault) (offset : ℕ) →
    HasFault boards before (games ++ values ∷ []) fault offset →
    HasFault boards before games fault offset ⊎ IsFaultOf boards (before ++ games) values fault offset
fault_in boards before [] values fault offset (inl is) = inr (subst (λ b. IsFaultOf boards b values fault offset)
    (sym (append-nil before)) is)
fault_in boards before [] values fault offset (inr is) = absurd is
fault_in boards before (game ∷ games) values fault offset (inl is) = inl (inl is)
fault_in boards before (game ∷ games) values fault offset (inr is) =
    elim (fault_in boards (before ++ game ∷ []) games values fault offset is) [
      | inl a ↦ inl (inr a)
      | inr b ↦ inr (subst (λ g. IsFaultOf boards g values fault offset) (append_assoc before (game ∷ []) games) b)
    ]

-- what the tags of a game and the values of the game before give
pub values_at : (state : State) (walk : Walk) (read : Values) → IsStateAfter state walk →
    ((used : Used) → read used ≡ as_read (inheriting (as_written (tag_of state.before used))
    (as_written (tag_of state.tags used)))) →
    read ≡ values_of walk.before walk.game
values_at state walk read at reads = λ i used.
    (reads used ∙ inherit_read (as_written (tag_of state.before used)) (as_written (tag_of state.tags used))
    ∙ (λ j. valued (at.before used j) (at.tags used j))) i

pub end_at : (old new : State) (walk : Walk) (read : Values) → new.boards ≡ old.boards → new.started ≡ false →
    ((used : Used) → tag_of new.tags used ≡ None) → ((used : Used) → values_read new.before used ≡ read used) →
    has_tags walk.game ≡ true →
    read ≡ values_of walk.before walk.game →
    ((games : List Values) → Knows old.boards games old.known → Knows old.boards (games ++ read ∷ []) new.known) →
    ((games : List Values) → Knows old.boards games old.known → (fault : Fault) (offset : ℕ) → ¬ IsFaultOf old.boards
    games read fault offset) →
    IsStateAfter old walk → IsStateAfter new (end_of walk)
end_at old new walk read boards started tags before some is known faultless at =
    subst (IsStateAfter new) (sym (end_is walk.done walk.before walk.game some)) (record {
      started = started;
      tags = λ used. ap as_written (tags used);
      before = λ used. before used ∙ (λ i. is i used);
      known = subst (λ (b : ℕ). Knows b (walk.done ++ values_of walk.before walk.game ∷ []) new.known) (sym boards)
          (subst (λ (v : Values). Knows old.boards (walk.done ++ v ∷ []) new.known) is (known walk.done at.known));
      faultless = λ fault offset has.
          elim (fault_in old.boards [] walk.done (values_of walk.before walk.game) fault offset
          (subst (λ (b : ℕ). HasFault b [] (walk.done ++ values_of walk.before walk.game ∷ []) fault offset) boards
          has)) [
            | inl a ↦ at.faultless fault offset a
            | inr b ↦ faultless walk.done at.known fault offset
                (subst (λ (v : Values). IsFaultOf old.boards walk.done v fault offset) (sym is) b)
          ];
    })
  where
    end_is : (done : List Values) (before : Values) (game : List Placed) → has_tags game ≡ true →
        ended_walk done before game ≡ record {
          done = done ++ values_of before game ∷ [];
          before =
              values_of before game;
          game = [];
        }
    end_is done before [] e = absurd (true≢false (sym e))
    end_is done before (tag ∷ game) e = refl

-- no tags, no game
pub end_none : (state : State) (walk : Walk) → state.started ≡ false → IsStateAfter state walk → IsStateAfter state
    (end_of walk)
end_none state walk none at = subst (IsStateAfter state)
    (sym (end_is walk.done walk.before walk.game (sym at.started ∙ none))) at
  where
    end_is : (done : List Values) (before : Values) (game : List Placed) → has_tags game ≡ false →
        ended_walk done before game ≡ record { done = done; before = before; game = game }
    end_is done before [] e = refl
    end_is done before (tag ∷ game) e = absurd (true≢false e)

pub end_fault : (old : State) (walk : Walk) (read : Values) (error : DealsError) → read ≡ values_of walk.before
    walk.game → has_tags walk.game ≡ true →
    IsGameFault old.boards walk.done read error → EndsInFault old.boards walk (end_of walk) error
end_fault old walk read error is some fault = record {
  ended = ended_done walk.done walk.before walk.game some;
  fault = subst (λ (v : Values). IsGameFault old.boards walk.done v error) is fault;
}
  where
    ended_done : (done : List Values) (before : Values) (game : List Placed) → has_tags game ≡ true →
        (ended_walk done before game).done ≡ done ++ values_of before game ∷ []
    ended_done done before [] e = absurd (true≢false (sym e))
    ended_done done before (tag ∷ game) e = refl

pub ok_of : {X E : Type 0} {A B C : Type 0} (result : Result X E) → (A → B → C) → OnOk result A → OnOk result B →
    OnOk result C
ok_of (Ok x) f a b = f a b
ok_of (Err e) f a b = a

pub err_of : {X E : Type 0} {P Q : E → Type 0} (result : Result X E) → ((error : E) → P error → Q error) →
    IfErr result P → IfErr result Q
err_of (Ok x) f is = is
err_of (Err e) f is = f e is

pub fault_of_step : (boards : ℕ) (walk : Walk) (tag : Placed) (error : DealsError) → has_already walk.game
    (used_of tag.name) ≡ true →
    EndsInFault boards walk (end_of walk) error → EndsInFault boards walk (after_mark walk (Named tag)) error
fault_of_step boards walk tag error is ends =
    subst (λ (next : Walk). EndsInFault boards walk next error) (sym (step_begins walk tag is))
    (record { ended = ends.ended; fault = ends.fault })
