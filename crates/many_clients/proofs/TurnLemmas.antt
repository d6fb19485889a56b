-- What a turn came to, once a message was read.
use Rattle.std.proofs.Common.{◌≡◌, ℕ, List, [], Option, inr}
use Rattle.tungstenite.specs.Content.{Content, text, binary, ping, pong, close}
use Rattle.tungstenite.specs.Socket.{Socket, Flushed, content_of}
use Rattle.many_clients.specs.Turns.{WritesAsFar, Puts, Gets, Hears, ReadsOne}
use Rattle.many_clients.specs.declared.turn_end.TurnEnd.{TurnEnd}
use Rattle.many_clients.specs.declared.turn_end.TurnEnd.TheVariants.{Answered, Sending, Reading, Closed}

module _ {S : Type 0} (contents : S → Option (List ℕ)) where
  pub puts_of : (end : TurnEnd) (message : Content) (before clear after : Socket S) → Flushed contents before clear →
      clear.output ≡ [] → WritesAsFar contents end message clear after → Puts contents end message before after
  puts_of Answered message before clear after flushed empty h =
      (record { clear = clear; flushed = flushed; nothing_waits = empty; writes = h.0 }, h.1)
  puts_of Sending message before clear after flushed empty h =
      record { clear = clear; flushed = flushed; nothing_waits = empty; writes = h }
  puts_of Reading message before clear after flushed empty h = h
  puts_of (Closed why) message before clear after flushed empty h = tt

module _ {S A G : Type 0} (remaining contents : S → Option (List ℕ))
    (answers : A → G → List ℕ → Option (List ℕ) → A → G → Type 0) (binary_text memory_text : List ℕ) where
  -- whoever was read of isn't waited for
  never : (content : Content) (read : Socket S) (guest : G) (server : A) (sent : Socket S) (guest_after : G) (after : A) →
      Gets remaining contents answers binary_text memory_text Reading content read guest server sent guest_after after → ⊥
  never (text message) read guest server sent guest_after after h = h.2
  never (binary message) read guest server sent guest_after after h = h.2
  never (ping bytes) read guest server sent guest_after after h = h.2
  never (pong bytes) read guest server sent guest_after after h = h.2
  never (close frame) read guest server sent guest_after after h = h.2

  pub reads_one : (end : TurnEnd) (socket : Socket S) (guest : G) (server : A) (sent : Socket S) (guest_after : G)
      (after : A) → Hears remaining contents answers binary_text memory_text end socket guest server sent guest_after after →
      ReadsOne remaining contents answers binary_text memory_text end socket guest server sent guest_after after
  reads_one Answered socket guest server sent guest_after after h = h
  reads_one Sending socket guest server sent guest_after after h = h
  reads_one Reading socket guest server sent guest_after after h =
      absurd (never (content_of h.message) h.read guest server sent guest_after after h.gets)
  reads_one (Closed why) socket guest server sent guest_after after h = inr h
