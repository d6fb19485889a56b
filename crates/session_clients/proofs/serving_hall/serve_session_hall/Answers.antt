use Rattle.std.proofs.Common.{◌∙◌, sym, subst}
use Rattle.session_clients.specs.Transcript.{AreServedInTurns}
use Rattle.session_clients.proofs.TranscriptLemmas.{transcribed_in_turns}
use Rattle.session_clients.proofs.serving_hall.serve_session_hall.Goals as goal

pub returns-clause-opening : goal.returns-clause-opening
returns-clause-opening g c =
    c.into_keeper.ensures.opening
    ∙ (transcribed_in_turns g.K.Keeper.others g.K.Keeper.no_entry g.K.Keeper.not_kept (g.K.Keeper.opening c.args.keeper)
    (g.K.Keeper.own_entries c.args.keeper) g.L.Stream.Read.remaining g.L.Stream.Write.contents
    (λ server. server.connection) c.args.plan.connections c.serve_hall.ensures.0 c.new-server.result c.serve_hall.new.server
    c.new-server.ensures.opening (c.new-server.ensures.journal ∙ c.requires) c.new-server.ensures.own
    c.new-server.ensures.user c.serve_hall.ensures.1 c.serve_hall.ensures.2).1

pub returns-clause-served : goal.returns-clause-served
returns-clause-served g c = (
  c.serve_hall.ensures.0,
  subst
      (λ own. AreServedInTurns g.L.Stream.Read.remaining g.L.Stream.Write.contents g.K.Keeper.others g.K.Keeper.no_entry
      g.K.Keeper.not_kept (g.K.Keeper.opening c.args.keeper) (g.K.Keeper.own_entries c.args.keeper)
      c.args.plan.connections c.serve_hall.ensures.0 (g.K.Keeper.journal c.into_keeper.result) own)
      (sym c.into_keeper.ensures.own)
      (subst
      (λ journal. AreServedInTurns g.L.Stream.Read.remaining g.L.Stream.Write.contents g.K.Keeper.others g.K.Keeper.no_entry
      g.K.Keeper.not_kept (g.K.Keeper.opening c.args.keeper) (g.K.Keeper.own_entries c.args.keeper)
      c.args.plan.connections c.serve_hall.ensures.0 journal c.serve_hall.new.server.connection.own_entries)
      (sym c.into_keeper.ensures.journal)
      (transcribed_in_turns g.K.Keeper.others g.K.Keeper.no_entry g.K.Keeper.not_kept (g.K.Keeper.opening c.args.keeper)
      (g.K.Keeper.own_entries c.args.keeper) g.L.Stream.Read.remaining g.L.Stream.Write.contents
      (λ server. server.connection) c.args.plan.connections c.serve_hall.ensures.0 c.new-server.result c.serve_hall.new.server
      c.new-server.ensures.opening (c.new-server.ensures.journal ∙ c.requires) c.new-server.ensures.own
      c.new-server.ensures.user c.serve_hall.ensures.1 c.serve_hall.ensures.2).0),
)
