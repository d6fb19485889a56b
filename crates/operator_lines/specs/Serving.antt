-- own: the line of a server that serves.
use Rattle.std.specs.Prelude.{ℕ, ◌⊎◌, Option, List, [], ◌++◌, codes}
use Rattle.std.specs.Fmt.{decimal}
use Rattle.std.specs.Io.KnownBytes.{Appends}
use Rattle.std.specs.Net.Addr.{IsLoopbackV4, IsLoopbackV6, MatchIp}
use Rattle.std.specs.Net.Socket.{socket_ip}
use Rattle.std.specs.Net.Text.{socket_text}
use Rattle.std.specs.declared.net.ip_addr.IpAddr.{IpAddr}
use Rattle.operator_lines.specs.Telling.{TellsLine}
use Rattle.operator_lines.specs.declared.serving_line.KeptIn.{KeptIn}
use Rattle.operator_lines.specs.declared.serving_line.KeptIn.TheVariants.{Nothing, Journal}
use Rattle.operator_lines.specs.declared.serving_line.ServingLine.{ServingLine}

-- a journal with its version
abbrev pub journal_text : List ℕ → ℕ → List ℕ
journal_text path version = codes "journal " ++ (path ++ (codes " at version " ++ decimal version))

-- what keeps the session: nothing, or a journal at a version, which is the number of its entries
abbrev pub kept_text : KeptIn → List ℕ
kept_text Nothing = codes "no journal"
kept_text (Journal path version) = journal_text path.now version

-- the address, the tables, the displays, the workers, and what keeps the session
unfoldable pub serving_line : ServingLine → List ℕ
serving_line serving =
    codes "bridge_server: serves at " ++ (socket_text serving.address
    ++ (codes ": " ++ (decimal serving.tables ++ (codes " tables, " ++ (decimal serving.displays
    ++ (codes " displays, " ++ (decimal serving.workers ++ (codes " workers, " ++ (kept_text serving.kept
    ++ codes "\n")))))))))

-- what is told where other computers can come
abbrev pub in_clear_line : List ℕ
in_clear_line = codes "bridge_server: other computers can come: without TLS in front of it tokens travel in clear\n"

-- only this computer can come to the address
abbrev pub IsLoopback : IpAddr → Type 0
IsLoopback address = MatchIp address IsLoopbackV4 IsLoopbackV6

-- what it means that other computers can come to an address is told, if they can
abbrev pub TellsInClear : IpAddr → Option (List ℕ) → Option (List ℕ) → Type 0
TellsInClear address before after =
    (IsLoopback address × Appends before after []) ⊎ ((¬ IsLoopback address) × TellsLine before after in_clear_line)

-- how a session is served is told in a line, for which there may be no memory, behind that
abbrev pub TellsServing : ServingLine → Option (List ℕ) → Option (List ℕ) → Type 0
TellsServing serving before after =
    (told : Option (List ℕ)) × TellsInClear (socket_ip serving.address) before told
    × (TellsLine told after (serving_line serving) ⊎ Appends told after [])
