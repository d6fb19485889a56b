use Rattle.std.proofs.Common.{codes}
use Rattle.server_words.proofs.RowLemmas.{number_in_rows}
use Rattle.server_words.proofs.reading.serving_of.Goals as goal

pub returns-then-is_in_range : goal.returns-then-is_in_range
returns-then-is_in_range c =
    let m = c.args.given.now in
    record {
      source = c.in_ok-source_of.ensures;
      address = c.in_ok-address_of.ensures;
      origin = c.text_of.ensures;
      page = c.text_of-2.ensures;
      log = c.text_of-3.ensures;
      range = c.is_in_range.ensures c.if-is_in_range.true;
      numbers = record {
        port = number_in_rows m (codes "port") 16 c.get_one.result c.in_ok-get_one.field-0 c.in_ok-get_one.was
            c.get_one.ensures.none c.get_one.ensures.value;
        displays = number_in_rows m (codes "displays") 8 c.get_one-2.result c.in_ok-get_one-2.field-0
            c.in_ok-get_one-2.was c.get_one-2.ensures.none c.get_one-2.ensures.value;
        workers = number_in_rows m (codes "workers") 8 c.get_one-3.result c.in_ok-get_one-3.field-0
            c.in_ok-get_one-3.was c.get_one-3.ensures.none c.get_one-3.ensures.value;
        connections = number_in_rows m (codes "connections") 32 c.get_one-4.result c.in_ok-get_one-4.field-0
            c.in_ok-get_one-4.was c.get_one-4.ensures.none c.get_one-4.ensures.value;
        clients = number_in_rows m (codes "clients") 32 c.get_one-5.result c.in_ok-get_one-5.field-0
            c.in_ok-get_one-5.was c.get_one-5.ensures.none c.get_one-5.ensures.value;
        idle = number_in_rows m (codes "idle") 32 c.get_one-6.result c.in_ok-get_one-6.field-0 c.in_ok-get_one-6.was
            c.get_one-6.ensures.none c.get_one-6.ensures.value;
      };
    }
