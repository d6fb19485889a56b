-- A client's turns over a WebSocket on a stream that doesn't block. That each text message gets exactly one text message is
-- this project's own.
use Rattle.std.specs.Prelude.{◌≡◌, ◌⊎◌, ℕ, Bool, true, false, List, [], Option, Ok, Err, ⊤}
use Rattle.tungstenite.specs.Connection.{write_step}
use Rattle.tungstenite.specs.Content.{Content, text, binary, ping, pong, close}
use Rattle.tungstenite.specs.Failure.{IsIo}
use Rattle.tungstenite.specs.Socket.{Socket, Reads, Writes, Flushed, content_of}
use Rattle.tungstenite.specs.declared.error.Error.{Error}
use Rattle.tungstenite.specs.declared.message.Message.{Message}
use Rattle.websocket_server.specs.Messages.{sent_text}
use Rattle.many_clients.specs.Talker.{Talker}
use Rattle.many_clients.specs.declared.turn_end.TurnEnd.{TurnEnd}
use Rattle.many_clients.specs.declared.turn_end.TurnEnd.TheVariants.{Answered, Sending, Reading, Closed}

-- whether a part of an answer waits after a turn that ended so
abbrev pub is_sending_after : TurnEnd → Bool
is_sending_after Answered = false
is_sending_after Sending = true
is_sending_after Reading = false
is_sending_after (Closed why) = false

module _ {S : Type 0} (contents : S → Option (List ℕ)) where
  -- one message is written once nothing waits any more: so what waits after it is the end of its frame, and no more
  pub record IsWrittenAlone (message : Content) (before after : Socket S) : Type 0 where
    pub clear : Socket S
    pub flushed : Flushed contents before clear
    pub nothing_waits : clear.output ≡ []
    pub writes : Writes contents clear after (write_step clear.conn message)

  -- one message joins what waits to be sent: all of it is sent, or a part waits, or it isn't known
  abbrev pub WritesAsFar : TurnEnd → Content → Socket S → Socket S → Type 0
  WritesAsFar Answered message before after =
      Writes contents before after (write_step before.conn message) × (after.output ≡ [])
  WritesAsFar Sending message before after = Writes contents before after (write_step before.conn message)
  WritesAsFar Reading message before after = ⊥
  WritesAsFar (Closed why) message before after = ⊤

  -- one message, and no other, joins what was sent: all of it is sent, or a part waits, or it isn't known
  abbrev pub Puts : TurnEnd → Content → Socket S → Socket S → Type 0
  Puts Answered message before after = IsWrittenAlone message before after × (after.output ≡ [])
  Puts Sending message before after = IsWrittenAlone message before after
  Puts Reading message before after = ⊥
  Puts (Closed why) message before after = ⊤

  -- no message joins it: what waited is sent, or a part of it waits, or it isn't known
  abbrev pub SendsRest : TurnEnd → Socket S → Socket S → Type 0
  SendsRest Answered before after = Flushed contents before after × (after.output ≡ [])
  SendsRest Sending before after = Flushed contents before after
  SendsRest Reading before after = ⊥
  SendsRest (Closed why) before after = ⊤

-- over streams whose bytes are known so, for a server that answers a text of a guest's connection so, a binary message so,
-- and so without memory
module _ {S A G : Type 0} (remaining contents : S → Option (List ℕ))
    (answers : A → G → List ℕ → Option (List ℕ) → A → G → Type 0) (binary_text memory_text : List ℕ) where
  -- what comes of a message in a turn that ends so: one text for a text, one fixed text for a binary message, and no text
  -- for any other. A text alone reaches the server, as one of the guest who is on its connection
  abbrev pub Gets : TurnEnd → Content → Socket S → G → A → Socket S → G → A → Type 0
  Gets end (text message) read guest server sent guest_after after =
      (answer : Option (List ℕ)) × answers server guest message answer after guest_after
      × Puts contents end (text (sent_text memory_text answer)) read sent
  Gets end (binary message) read guest server sent guest_after after =
      (after ≡ server) × (guest_after ≡ guest) × Puts contents end (text binary_text) read sent
  Gets end (ping bytes) read guest server sent guest_after after =
      (after ≡ server) × (guest_after ≡ guest) × SendsRest contents end read sent
  Gets end (pong bytes) read guest server sent guest_after after =
      (after ≡ server) × (guest_after ≡ guest) × SendsRest contents end read sent
  Gets end (close frame) read guest server sent guest_after after =
      (after ≡ server) × (guest_after ≡ guest) × SendsRest contents end read sent

  -- a message is read, and what comes of it is done
  pub record Hears (end : TurnEnd) (socket : Socket S) (guest : G) (server : A) (socket_after : Socket S) (guest_after : G)
      (server_after : A) : Type 0 where
    pub read : Socket S
    pub message : Message
    pub reads : Reads remaining socket read (Ok message)
    pub gets : Gets end (content_of message) read guest server socket_after guest_after server_after

  -- no message has come whole: what has come is kept, and nothing has changed for the server
  pub record HearsNone (socket : Socket S) (guest : G) (server : A) (socket_after : Socket S) (guest_after : G)
      (server_after : A) : Type 0 where
    pub error : Error
    pub waits : IsIo error
    pub reads : Reads remaining socket socket_after (Err error)
    pub guest_same : guest_after ≡ guest
    pub server_same : server_after ≡ server

  -- the turn of a client of whose answers no part waits: a message is read, if one has come whole
  abbrev pub ReadsOne : TurnEnd → Socket S → G → A → Socket S → G → A → Type 0
  ReadsOne Answered socket guest server socket_after guest_after server_after =
      Hears Answered socket guest server socket_after guest_after server_after
  ReadsOne Sending socket guest server socket_after guest_after server_after =
      Hears Sending socket guest server socket_after guest_after server_after
  ReadsOne Reading socket guest server socket_after guest_after server_after =
      HearsNone socket guest server socket_after guest_after server_after
  ReadsOne (Closed why) socket guest server socket_after guest_after server_after =
      ((guest_after ≡ guest) × (server_after ≡ server))
      ⊎ Hears (Closed why) socket guest server socket_after guest_after server_after

  -- a client's turn: where a part of an answer waits that is sent on, and nothing is read; else one message is read
  abbrev pub SendsOrReads : Bool → TurnEnd → Socket S → G → A → Socket S → G → A → Type 0
  SendsOrReads true end socket guest server socket_after guest_after server_after =
      (guest_after ≡ guest) × (server_after ≡ server) × SendsRest contents end socket socket_after
  SendsOrReads false end socket guest server socket_after guest_after server_after =
      ReadsOne end socket guest server socket_after guest_after server_after

  -- a turn of a client, which ends so
  pub record IsTurnOf (end : TurnEnd) (before : Talker S G) (server : A) (after : Talker S G) (server_after : A)
      : Type 0 where
    pub goes :
        SendsOrReads before.is_sending end before.socket before.guest server after.socket after.guest server_after
    pub then : after.is_sending ≡ is_sending_after end
