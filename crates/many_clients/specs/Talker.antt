-- What contracts see of a client that talks over a WebSocket.
use Rattle.std.specs.Prelude.{◌≡◌, Bool, false, Some, [], refl}
use Rattle.std.specs.Coded.{Coded, code_by, coded×, coded_bool}
use Rattle.tungstenite.specs.Socket.{Socket, IsFresh, socket_code}
use Rattle.websocket.specs.declared.protocol.config.Role.TheVariants as Role
use Rattle.websocket_server.specs.Messages.{longest_message}

-- its socket, the guest who is on its connection, and whether a part of an answer waits until it takes it
pub record Talker (S G : Type 0) : Type 0 where
  pub socket : Socket S
  pub guest : G
  pub is_sending : Bool

abbrev pub talker_code : {S G : Type 0} → Coded S → Coded G → Coded (Talker S G)
talker_code {S} {G} stream guest =
    code_by (Socket S × (G × Bool))
    (coded× (socket_code stream) (coded× guest coded_bool))
    (λ t. (t.socket, (t.guest, t.is_sending)))
    (λ p. record { socket = p.0; guest = p.1.0; is_sending = p.1.1 })
    (λ _. refl)

-- the server's socket after a handshake: no message was begun and nothing written, whatever bytes have come, and no message
-- with more bytes than the longest is read
pub record IsAtStart {S : Type 0} (socket : Socket S) : Type 0 where
  pub fresh : IsFresh (record socket { input = [] }) socket.stream Role.Server
  pub longest : socket.conn.config.max_message_size ≡ Some longest_message
  pub longest_frame : socket.conn.config.max_frame_size ≡ Some longest_message

-- whoever comes: nothing of an answer waits
abbrev pub newcomer_on : {S G : Type 0} → Socket S → G → Talker S G
newcomer_on socket nobody = record { socket = socket; guest = nobody; is_sending = false }
