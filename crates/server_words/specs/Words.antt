-- What the program's words ask for.
use Rattle.std.specs.Prelude.{◌≡◌, ◌≢◌, ◌≤◌, ℕ, List, [], ◌∷◌, Option, Some, None, IsSomeAnd, codes, option_map}
use Rattle.std.specs.Net.Addr.{ipv4_octets}
use Rattle.std.specs.Net.Grammar.{IsIpText}
use Rattle.std.specs.Option.{option_map_or}
use Rattle.std.specs.declared.net.ip_addr.IpAddr.{IpAddr}
use Rattle.std.specs.declared.net.ip_addr.IpAddr.TheVariants.{V4, V6}
use Rattle.std.specs.Str.Parse.{digits_value, without_leading_plus}
use Rattle.clap.specs.Words.{IsAmong, Kinds, Row, Text, fault_of, first_of, one_of, subcommand_of, subcommand_rows_of}
use Rattle.clap.specs.declared.error.kind.ErrorKind.TheVariants.{DisplayHelp, DisplayVersion}
use Rattle.clap.specs.declared.parser.matches.ArgMatches.{ArgMatches}
use Rattle.server_words.specs.CommandLine.{
  line_for,
  least_port,
  most_port,
  least_displays,
  most_displays,
  most_workers,
  most_connections,
  least_clients,
  most_clients,
  least_idle,
  most_idle,
}
use Rattle.server_words.specs.ReportForm.{form_word}
use Rattle.server_words.specs.declared.words.Words.{Words}
use Rattle.server_words.specs.declared.words.Words.TheVariants.{Script, Serve, Audit, Copy, Check, Prepare, Report}
use Rattle.server_words.specs.declared.words.Preparing.{Preparing}
use Rattle.server_words.specs.declared.words.Serving.{Serving}
use Rattle.server_words.specs.declared.words.SessionSource.{SessionSource}
use Rattle.server_words.specs.declared.words.SessionSource.TheVariants.{Files, Journal}

-- own: each number is in its range
pub record AreNumbersInRange (serving : Serving) : Type 0 where
  pub port : (least_port ≤ serving.port) × (serving.port ≤ most_port)
  pub displays : (least_displays ≤ serving.displays) × (serving.displays ≤ most_displays)
  pub workers : serving.workers ≤ most_workers
  pub connections : serving.connections ≤ most_connections
  pub clients : (least_clients ≤ serving.clients) × (serving.clients ≤ most_clients)
  pub idle : (least_idle ≤ serving.idle) × (serving.idle ≤ most_idle)

-- own: the option has a text, from the words or by default, and its digits write the number
abbrev pub IsGiven : List Row → Text → ℕ → Type 0
IsGiven options name number =
    IsSomeAnd (one_of name options) (λ text. number ≡ digits_value 10 (without_leading_plus text))

-- own: each number is that of its own option
pub record AreNumbersGiven (options : List Row) (serving : Serving) : Type 0 where
  pub port : IsGiven options (codes "port") serving.port
  pub displays : IsGiven options (codes "displays") serving.displays
  pub workers : IsGiven options (codes "workers") serving.workers
  pub connections : IsGiven options (codes "connections") serving.connections
  pub clients : IsGiven options (codes "clients") serving.clients
  pub idle : IsGiven options (codes "idle") serving.idle

-- the subcommand that the words name, with its options
abbrev pub subcommand_in : List Text → Option (Text × List Row)
subcommand_in words = subcommand_of (line_for words) words

-- the kinds of fault that the words have, of which a request for help is one
abbrev pub faults_in : List Text → Kinds
faults_in words = fault_of (line_for words) words

-- the words don't ask for help, nor for the version
abbrev pub AsksNoHelp : List Text → Type 0
AsksNoHelp words = (¬ IsAmong DisplayHelp (faults_in words)) × (¬ IsAmong DisplayVersion (faults_in words))

-- the words have a fault, which is no request for help
abbrev pub IsMistaken : List Text → Type 0
IsMistaken words = (faults_in words ≢ []) × AsksNoHelp words

-- own: the session is from the files that the options name, and kept in the journal that they name, if any
abbrev pub IsSourceGiven : List Row → SessionSource → Type 0
IsSourceGiven options (Files files) =
    (first_of (codes "journal") options ≡ None)
    × (first_of (codes "session") options ≡ Some files.session.now)
    × (first_of (codes "deals") options ≡ Some files.deals.now)
IsSourceGiven options (Journal path (Some files)) =
    (first_of (codes "journal") options ≡ Some path.now)
    × (first_of (codes "session") options ≡ Some files.session.now)
    × (first_of (codes "deals") options ≡ Some files.deals.now)
IsSourceGiven options (Journal path None) =
    (first_of (codes "journal") options ≡ Some path.now)
    × (first_of (codes "session") options ≡ None)
    × (first_of (codes "deals") options ≡ None)

-- the address 127.0.0.1
abbrev pub IsThisComputer : IpAddr → Type 0
IsThisComputer (V4 address) = ipv4_octets address ≡ 127 ∷ 0 ∷ 0 ∷ 1 ∷ []
IsThisComputer (V6 address) = ⊥

-- own: the address is that of a text, or this computer's own where there is none
abbrev pub IsAddressOf : Option Text → IpAddr → Type 0
IsAddressOf (Some text) address = IsIpText text address
IsAddressOf None address = IsThisComputer address

-- own: the address is the one that the option names
abbrev pub IsAddressGiven : List Row → IpAddr → Type 0
IsAddressGiven options address = IsAddressOf (first_of (codes "listen") options) address

-- own: each option of `serve` is as it is given
pub record IsServingGiven (options : List Row) (serving : Serving) : Type 0 where
  pub source : IsSourceGiven options serving.source
  pub address : IsAddressGiven options serving.address
  pub origin : first_of (codes "origin") options ≡ option_map (λ o. o.now) serving.origin
  pub page : first_of (codes "page") options ≡ option_map (λ o. o.now) serving.page
  pub log : first_of (codes "log") options ≡ option_map (λ o. o.now) serving.log
  pub range : AreNumbersInRange serving
  pub numbers : AreNumbersGiven options serving

-- own: each option of `prepare` is as it is given
pub record IsPreparingGiven (options : List Row) (preparing : Preparing) : Type 0 where
  pub people : first_of (codes "people") options ≡ Some preparing.people.now
  pub deals : first_of (codes "deals") options ≡ Some preparing.deals.now
  pub to : first_of (codes "to") options ≡ Some preparing.to.now
  pub tables : IsGiven options (codes "tables") preparing.tables
  pub rounds : IsGiven options (codes "rounds") preparing.rounds
  pub per_set : IsGiven options (codes "per-set") preparing.per_set
  pub movement : first_of (codes "movement") options ≡ option_map (λ o. o.now) preparing.movement
  pub switched : IsGiven options (codes "switched") preparing.switched
  pub absent : first_of (codes "absent") options ≡ option_map (λ o. o.now) preparing.absent
  pub budget : IsGiven options (codes "budget") preparing.budget
  pub title : first_of (codes "title") options ≡ option_map (λ o. o.now) preparing.title
  pub date : first_of (codes "date") options ≡ option_map (λ o. o.now) preparing.date
  pub address : first_of (codes "address") options ≡ Some preparing.address.now

-- the name of the subcommand that the words name
abbrev pub name_in : List Text → Option Text
name_in words = option_map (λ p. p.0) (subcommand_in words)

-- its options
abbrev pub options_in : List Text → List Row
options_in words = option_map_or (λ p. p.1) (subcommand_in words) []

-- the words have no fault, and ask for this
abbrev pub AsksFor : List Text → Words → Type 0
AsksFor words Script = (faults_in words ≡ []) × (name_in words ≡ Some (codes "script"))
AsksFor words (Serve serving) =
    (faults_in words ≡ []) × (name_in words ≡ Some (codes "serve")) × IsServingGiven (options_in words) serving
AsksFor words (Audit path) =
    (faults_in words ≡ []) × (name_in words ≡ Some (codes "audit"))
    × (first_of (codes "journal") (options_in words) ≡ Some path.now)
AsksFor words (Copy copy) =
    (faults_in words ≡ []) × (name_in words ≡ Some (codes "copy"))
    × (first_of (codes "journal") (options_in words) ≡ Some copy.journal.now)
    × (first_of (codes "to") (options_in words) ≡ Some copy.to.now)
AsksFor words (Check checking) =
    (faults_in words ≡ []) × (name_in words ≡ Some (codes "check"))
    × (first_of (codes "session") (options_in words) ≡ Some checking.session.now)
    × (first_of (codes "deals") (options_in words) ≡ option_map (λ deals. deals.now) checking.deals)
AsksFor words (Prepare preparing) =
    (faults_in words ≡ []) × (name_in words ≡ Some (codes "prepare")) × IsPreparingGiven (options_in words) preparing
AsksFor words (Report reporting) =
    (faults_in words ≡ []) × (name_in words ≡ Some (codes "report"))
    × (first_of (codes "journal") (options_in words) ≡ Some reporting.journal.now)
    × (first_of (codes "as") (options_in words) ≡ Some (form_word reporting.form))

-- ---- for private clauses

-- `clap` has no fault to find in the words, and names the subcommand that they name
abbrev pub IsReadFrom : List Text → ArgMatches → Type 0
IsReadFrom words matches = (faults_in words ≡ []) × (subcommand_rows_of matches ≡ subcommand_in words)
