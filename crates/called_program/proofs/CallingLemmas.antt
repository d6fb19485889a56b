-- How the program ends where nothing is run.
use Rattle.std.proofs.Common.{◌≡◌, ◌≢◌, ◌⊎◌, ◌≤◌, ◌∙◌, ◌∷◌, inl, inr, refl, sym, ap, subst, List, ℕ, [], length, arith}
use Rattle.std.specs.Prelude.{Option, Some, None, IfSome}
use Rattle.std.specs.Io.KnownBytes.{Appends}
use Rattle.clap.specs.Words.{HasKind, Text, kind_of}
use Rattle.clap.specs.declared.error.Error.{Error}
use Rattle.clap.specs.declared.error.kind.ErrorKind.TheVariants as kind
use Rattle.std.proofs.KnownBytes.{Appends-nil}
use Rattle.operator_lines.specs.Obstacles.{ToldWhy}
use Rattle.program.specs.Status.{IsStatus}
use Rattle.server_words.specs.Words.{AsksFor, AsksNoHelp, faults_in}
use Rattle.server_words.specs.declared.words.Words.{Words}
use Rattle.server_words.specs.declared.words.Words.TheVariants.{Serve}
use Rattle.server_words.specs.ReportForm.{form_word}
use Rattle.server_words.specs.declared.words.ReportForm.{ReportForm}
use Rattle.server_words.specs.declared.words.ReportForm.TheVariants.{Csv, Html, Pbn, Usebio}
use Rattle.server_words.specs.declared.words.Serving.{Serving}
use Rattle.server_words.specs.declared.words.SessionSource.{SessionSource}
use Rattle.server_words.specs.declared.words.SessionSource.TheVariants.{Files, Journal as Kept}
use Rattle.called_program.specs.Said.{IsKeptSource, IsSaidOnErrors, IsToldServed, IsToldUnserved, NamesJournal}

-- words without a fault ask for no help
pub no_help_without_fault : (words : List Text) → faults_in words ≡ [] → AsksNoHelp words
no_help_without_fault words none = (λ help. absurd (rw none at help), λ version. absurd (rw none at version))

-- an error of words that ask for no help shows none
pub not_shown : (error : Error) (words : List Text) → AsksNoHelp words
    → (kind_of error ≡ kind.InvalidValue) ⊎ HasKind (faults_in words) error
    → (kind_of error ≢ kind.DisplayHelp) × (kind_of error ≢ kind.DisplayVersion)
not_shown error words no_help (inl invalid) = (λ help. absurd (cc), λ version. absurd (cc))
not_shown error words no_help (inr (inl memory)) = (λ help. absurd (cc), λ version. absurd (cc))
not_shown error words no_help (inr (inr among)) =
    (λ help. no_help.0 (rw help at among), λ version. no_help.1 (rw version at among))

-- the first letter of a word
abbrev pub letter : Option (List ℕ) → ℕ
letter None = 0
letter (Some []) = 0
letter (Some (code ∷ codes)) = code

-- two words that are one have one first letter
same_letter : (one other : List ℕ) (word : Option (List ℕ)) → word ≡ Some one → word ≡ Some other
    → letter (Some one) ≡ letter (Some other)
same_letter one other word is so = ap letter (sym is ∙ so)

-- a form is told by its word
pub same_form : (one other : ReportForm) (word : Option (List ℕ)) → word ≡ Some (form_word one) → word ≡ Some (form_word other)
    → one ≡ other
same_form Csv Csv word is so = refl
same_form Html Html word is so = refl
same_form Pbn Pbn word is so = refl
same_form Usebio Usebio word is so = refl
same_form Csv Html word is so = absurd (omega (arith, same_letter (form_word Csv) (form_word Html) word is so))
same_form Csv Pbn word is so = absurd (omega (arith, same_letter (form_word Csv) (form_word Pbn) word is so))
same_form Csv Usebio word is so = absurd (omega (arith, same_letter (form_word Csv) (form_word Usebio) word is so))
same_form Html Csv word is so = absurd (omega (arith, same_letter (form_word Html) (form_word Csv) word is so))
same_form Html Pbn word is so = absurd (omega (arith, same_letter (form_word Html) (form_word Pbn) word is so))
same_form Html Usebio word is so = absurd (omega (arith, same_letter (form_word Html) (form_word Usebio) word is so))
same_form Pbn Csv word is so = absurd (omega (arith, same_letter (form_word Pbn) (form_word Csv) word is so))
same_form Pbn Html word is so = absurd (omega (arith, same_letter (form_word Pbn) (form_word Html) word is so))
same_form Pbn Usebio word is so = absurd (omega (arith, same_letter (form_word Pbn) (form_word Usebio) word is so))
same_form Usebio Csv word is so = absurd (omega (arith, same_letter (form_word Usebio) (form_word Csv) word is so))
same_form Usebio Html word is so = absurd (omega (arith, same_letter (form_word Usebio) (form_word Html) word is so))
same_form Usebio Pbn word is so = absurd (omega (arith, same_letter (form_word Usebio) (form_word Pbn) word is so))

-- what is said of what ended the program before anything else was told
why_at_once : (words : List Text) (status : ℕ) (before after : Option (List ℕ)) → ToldWhy status before after
    → IsSaidOnErrors words status before after
why_at_once words status before after why = inr (inl (before, inl (Appends-nil before), why))

-- what words say that serve nobody, where no fault is named with 3
pub says_why : (words : List Text) (status : ℕ) (before after : Option (List ℕ)) → IsStatus status → status ≢ 1 → status ≢ 2
    → (status ≡ 0 → Appends before after []) → ((status ≡ 3) ⊎ (status ≡ 4) → ToldWhy status before after)
    → IsSaidOnErrors words status before after
says_why words status before after (inl none) not_one not_two silent why = inl (none, inl (silent none))
says_why words status before after (inr (inl one)) not_one not_two silent why = absurd (not_one one)
says_why words status before after (inr (inr (inl two))) not_one not_two silent why = absurd (not_two two)
says_why words status before after (inr (inr (inr failed))) not_one not_two silent why =
    why_at_once words status before after (why failed)

-- what words say of a journal or of a folder
pub says_named : (words : List Text) (asked : Words) (status : ℕ) (before after : Option (List ℕ)) → AsksFor words asked
    → NamesJournal asked → IsStatus status → status ≢ 1 → status ≢ 2 → (status ≡ 0 → Appends before after [])
    → (status ≡ 4 → ToldWhy status before after) → IsSaidOnErrors words status before after
says_named words asked status before after asks names (inl none) not_one not_two silent why = inl (none, inl (silent none))
says_named words asked status before after asks names (inr (inl one)) not_one not_two silent why = absurd (not_one one)
says_named words asked status before after asks names (inr (inr (inl two))) not_one not_two silent why = absurd (not_two two)
says_named words asked status before after asks names (inr (inr (inr (inl three)))) not_one not_two silent why =
    inr (inr (three, asked, asks, names))
says_named words asked status before after asks names (inr (inr (inr (inr four)))) not_one not_two silent why =
    why_at_once words status before after (why four)

-- what words say of a server that doesn't serve
unserved : (words : List Text) (serving : Serving) (source : SessionSource) (status : ℕ) (before after : Option (List ℕ))
    → serving.source ≡ source → AsksFor words (Serve serving) → IsToldUnserved source status before after
    → IsSaidOnErrors words status before after
unserved words serving (Files files) status before after is asks ends = elim ends.1 [
  | inl silent ↦ inr (inl (ends.0, inl silent, ends.2))
  | inr served ↦
      let told : IsToldServed serving.source before ends.0 =
      subst (λ source. IsToldServed source before ends.0) (sym is) served in
      inr (inl (ends.0, inr (serving, asks, told), ends.2))
]
unserved words serving (Kept path files) status before after is asks (inl three) =
    inr (inr (three, Serve serving, asks, subst IsKeptSource (sym is) tt))
unserved words serving (Kept path files) status before after is asks (inr ends) =
    let told : IsToldServed serving.source before ends.0 =
    subst (λ source. IsToldServed source before ends.0) (sym is) ends.1 in
    inr (inl (ends.0, inr (serving, asks, told), ends.2))

-- what words say that ask for a server
pub says_served : (words : List Text) (serving : Serving) (status : ℕ) (before after : Option (List ℕ))
    → AsksFor words (Serve serving) → IsStatus status → status ≢ 1 → status ≢ 2
    → (status ≡ 0 → IsToldServed serving.source before after)
    → ((status ≡ 3) ⊎ (status ≡ 4) → IsToldUnserved serving.source status before after)
    → IsSaidOnErrors words status before after
says_served words serving status before after asks (inl none) not_one not_two told ends =
    inl (none, inr (serving, asks, told none))
says_served words serving status before after asks (inr (inl one)) not_one not_two told ends = absurd (not_one one)
says_served words serving status before after asks (inr (inr (inl two))) not_one not_two told ends = absurd (not_two two)
says_served words serving status before after asks (inr (inr (inr failed))) not_one not_two told ends =
    unserved words serving serving.source status before after refl asks (ends failed)
