-- What looking at a session object comes to.
use Rattle.std.proofs.Common.{◌≡◌, ℕ, List, Option, Some, None, Result, Ok, Err, IfOk, IfErr, inl, refl, sym, subst, get_or, false}
use Rattle.std.specs.Prelude.{IsSome}
use Rattle.std.specs.Option.{IsSomeAnd}
use Rattle.session_opening.specs.declared.config.Config.{Config}
use Rattle.session_opening.specs.declared.new_user.NewUser.{NewUser}
use Rattle.session_opening.specs.declared.opening_refusal.OpeningRefusal.{OpeningRefusal}
use Rattle.session_check.specs.Users.{is_of_user, IsRefusedUser, IsUserAt, TellsAt, first_in_the_way}
use Rattle.serde_json.specs.Data.{Data}
use Rattle.session_state.specs.SessionState.{SessionState}
use Rattle.session_opening.specs.Opening.{opening_of}
use Rattle.session_opening.specs.OpeningRefusal.{opening_refusal}
use Rattle.session_object.specs.declared.object.SessionObject.{SessionObject}
use Rattle.session_object.specs.declared.session_fault.SessionFault.{SessionFault}
use Rattle.session_object.specs.declared.session_fault.SessionFault.TheVariants.{
  TooLong,
  Malformed,
  BadField,
  Movement,
  Row,
  Deals,
  OutOfMemory,
}
use Rattle.session_object.specs.Reading.{ReadsSession, IsSessionRefused, IsReadAsJson, IsObjectText}
use Rattle.opened_session.specs.Opened.{OpensWith, OpensNoneWith}
use Rattle.opened_session.specs.declared.opening_fault.OpeningFault.{OpeningFault}
use Rattle.opened_session.specs.declared.opening_fault.OpeningFault.TheVariants.{Session, Opening}
use Rattle.session_check.specs.declared.refused.NamedUser.{NamedUser}
use Rattle.session_check.specs.declared.refused.Refused.{Refused}
use Rattle.session_check.specs.declared.summary.Summary.{Summary}
use Rattle.session_check.specs.Lines.{offset_of, boards_text, IsLineIn, LineIsTold}
use Rattle.session_check.specs.Places.{TellsUsers, TellsWhom, TellsWhere, RefusesConfig}
use Rattle.session_check.specs.Summaries.{summary_of}
use Rattle.session_check.proofs.TextLemmas.{read_as_json, has_boards}

module _ (given : Option (List ℕ)) (text : List ℕ) where
  module _ (object : SessionObject) (reads : ReadsSession given text object) where
    -- a session that opens
    pub opens_in : (result : Result Summary Refused)
        → IfOk result (λ s. (opening_refusal object.config ≡ None) × (s ≡ summary_of (opening_of object.config)))
        → IfOk result (λ s. (opening : SessionState) × OpensWith given text opening × (s ≡ summary_of opening))
    opens_in (Err refused) is = tt
    opens_in (Ok s) is =
        (opening_of object.config, record { object = object; reads = reads; allowed = is.0; opens = refl }, is.1)

    module _ (line : Option ℕ) (user other : Option NamedUser) where
      none_by : (fault : OpeningFault) → RefusesConfig object.config fault line user other →
          OpensNoneWith given fault text
      none_by (Opening cause) is = record { object = object; reads = reads; refused = inl is.0 }
      none_by (Session TooLong) is = absurd is
      none_by (Session Malformed) is = absurd is
      none_by (Session BadField) is = absurd is
      none_by (Session (Movement error)) is = absurd is
      none_by (Session (Row error number)) is = absurd is
      none_by (Session (Deals error)) is = absurd is
      none_by (Session OutOfMemory) is =
          record { refused = tt; memory = λ _. read_as_json text reads.said reads.is }

      where_by : (fault : OpeningFault) → RefusesConfig object.config fault line user other →
          TellsWhere given text fault line
      where_by (Opening cause) is = is.1
      where_by (Session TooLong) is = absurd is
      where_by (Session Malformed) is = absurd is
      where_by (Session BadField) is = absurd is
      where_by (Session (Movement error)) is = absurd is
      where_by (Session (Row error number)) is = absurd is
      where_by (Session (Deals error)) is = absurd is
      where_by (Session OutOfMemory) is = is.0

      whom_by : (fault : OpeningFault) → RefusesConfig object.config fault line user other →
          TellsWhom given text fault user other
      whom_by (Opening cause) is = (object, reads, is.2)
      whom_by (Session TooLong) is = absurd is
      whom_by (Session Malformed) is = absurd is
      whom_by (Session BadField) is = absurd is
      whom_by (Session (Movement error)) is = absurd is
      whom_by (Session (Row error number)) is = absurd is
      whom_by (Session (Deals error)) is = absurd is
      whom_by (Session OutOfMemory) is = (is.1, is.2)

    -- one that is refused: why, where and for whom
    pub none_in : (result : Result Summary Refused)
        → IfErr result (λ r. RefusesConfig object.config r.fault r.line r.user r.other)
        → IfErr result (λ r. OpensNoneWith given r.fault text)
    none_in (Ok s) is = tt
    none_in (Err r) is = none_by r.line r.user r.other r.fault is

    pub where_in : (result : Result Summary Refused)
        → IfErr result (λ r. RefusesConfig object.config r.fault r.line r.user r.other)
        → IfErr result (λ r. TellsWhere given text r.fault r.line)
    where_in (Ok s) is = tt
    where_in (Err r) is = where_by r.line r.user r.other r.fault is

    pub whom_in : (result : Result Summary Refused)
        → IfErr result (λ r. RefusesConfig object.config r.fault r.line r.user r.other)
        → IfErr result (λ r. TellsWhom given text r.fault r.user r.other)
    whom_in (Ok s) is = tt
    whom_in (Err r) is = whom_by r.line r.user r.other r.fault is

  -- where a fault stands at a byte of the boards' text, there is such a text
  pub text_there : (fault : SessionFault) (offset : ℕ) → offset_of fault ≡ Some offset →
      IsSessionRefused fault given text
      → (d : Data) × IsObjectText text d × IsSome (boards_text given d)
  text_there TooLong offset at refused = absurd cc
  text_there Malformed offset at refused = absurd cc
  text_there BadField offset at refused = absurd cc
  text_there (Movement error) offset at refused = absurd cc
  text_there (Row error number) offset at refused = absurd cc
  text_there (Deals error) offset at refused =
      (refused.said, refused.is, has_boards given refused.said refused.refused.1.session refused.refused.1.says)
  text_there OutOfMemory offset at refused = absurd cc

  -- its line is the one that is told
  pub line_told : (fault : SessionFault) (offset line : ℕ) → offset_of fault ≡ Some offset →
      IsLineIn given text offset line → LineIsTold given text (offset_of fault) (Some line)
  line_told fault offset line at is = subst (λ (o : Option ℕ). LineIsTold given text o (Some line)) (sym at) is

  -- and where it stands at none, no line is told
  pub no_line_told : (fault : SessionFault) → offset_of fault ≡ None → LineIsTold given text (offset_of fault) None
  no_line_told fault at = subst (λ (o : Option ℕ). LineIsTold given text o None) (sym at) refl

  -- and memory may be asked for
  pub memory_there : (fault : SessionFault) (offset : ℕ) → offset_of fault ≡ Some offset →
      IsSessionRefused fault given text → IsReadAsJson text
  memory_there fault offset at refused =
      let there = text_there fault offset at refused in read_as_json text there.0 there.1

-- ---- a session that is refused for a user

module _ (config : Config) (cause : OpeningRefusal) (place : ℕ) (user other : Option NamedUser)
    (refused : IsRefusedUser config place)
    (others : (d : NewUser) →
    TellsAt config.users (first_in_the_way cause config.users place (get_or config.users place d)) other) where
  by_user : (user : Option NamedUser) → IsSomeAnd user (IsUserAt config.users place) → TellsUsers config cause user other
  by_user None is = absurd is
  by_user (Some user) is = (place, refused, is, others)

  pub refuses_at : (fault : OpeningFault) (line : Option ℕ) → opening_refusal config ≡ Some cause
      → fault ≡ Opening cause → line ≡ None → IsSomeAnd user (IsUserAt config.users place)
      → RefusesConfig config fault line user other
  refuses_at fault line is told nowhere named =
      subst (λ (f : OpeningFault). RefusesConfig config f line user other) (sym told) (is, nowhere, by_user user named)

-- one that is refused for nobody
pub refuses_all : (config : Config) (cause : OpeningRefusal) (fault : OpeningFault) (line : Option ℕ)
    (user other : Option NamedUser) → opening_refusal config ≡ Some cause
    → is_of_user (opening_refusal config) ≡ false → fault ≡ Opening cause → line ≡ None → user ≡ None → other ≡ None
    → RefusesConfig config fault line user other
refuses_all config cause fault line user other is nobody told nowhere nameless alone =
    subst (λ (f : OpeningFault). RefusesConfig config f line user other) (sym told)
    (subst (λ (u : Option NamedUser). RefusesConfig config (Opening cause) line u other) (sym nameless)
    (is, nowhere, (nobody, alone)))

-- memory was refused
pub refuses_for_memory : (config : Config) (fault : OpeningFault) (line : Option ℕ) (user other : Option NamedUser)
    → fault ≡ Session OutOfMemory → line ≡ None → user ≡ None → other ≡ None
    → RefusesConfig config fault line user other
refuses_for_memory config fault line user other told nowhere nameless alone =
    subst (λ (f : OpeningFault). RefusesConfig config f line user other) (sym told) (nowhere, nameless, alone)

-- ---- an object that isn't read

module _ (given : Option (List ℕ)) (text : List ℕ) (fault : SessionFault) (told : OpeningFault)
    (is : told ≡ Session fault) where
  pub unread_none : IsSessionRefused fault given text → (fault ≡ OutOfMemory → IsReadAsJson text) →
      OpensNoneWith given told text
  unread_none refused memory =
      subst (λ (f : OpeningFault). OpensNoneWith given f text) (sym is) (record { refused = refused; memory = memory })

  pub unread_where : (line : Option ℕ) → LineIsTold given text (offset_of fault) line → TellsWhere given text told line
  unread_where line at = subst (λ (f : OpeningFault). TellsWhere given text f line) (sym is) at

  pub unread_whom : (user other : Option NamedUser) → user ≡ None → other ≡ None → TellsWhom given text told user other
  unread_whom user other nameless alone =
      subst (λ (f : OpeningFault). TellsWhom given text f user other) (sym is) (nameless, alone)

-- ---- an object with a member that isn't as it should be

-- it is an object
pub misread_text : (given : Option (List ℕ)) (text : List ℕ) (fault : OpeningFault) → fault ≡ Session BadField →
    OpensNoneWith given fault text → (d : Data) × IsObjectText text d
misread_text given text fault is none =
    let refused = (subst (λ (f : OpeningFault). OpensNoneWith given f text) is none).refused in
    (refused.said, refused.is)
