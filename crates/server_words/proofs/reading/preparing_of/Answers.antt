use Rattle.std.proofs.Common.{codes, option_map, ap, ◌∙◌}
use Rattle.server_words.proofs.RowLemmas.{number_in_rows}
use Rattle.server_words.proofs.reading.preparing_of.Goals as goal

pub returns : goal.returns
returns c =
    let m = c.args.given.now in
    record {
      people = c.text_of.ensures ∙ ap (option_map (λ t. t.now)) c.in_ok-text_of.was;
      deals = c.text_of-2.ensures ∙ ap (option_map (λ t. t.now)) c.in_ok-text_of-2.was;
      to = c.text_of-3.ensures ∙ ap (option_map (λ t. t.now)) c.in_ok-text_of-3.was;
      tables = number_in_rows m (codes "tables") 8 c.get_one.result c.in_ok-get_one.field-0 c.in_ok-get_one.was
          c.get_one.ensures.none c.get_one.ensures.value;
      rounds = number_in_rows m (codes "rounds") 8 c.get_one-2.result c.in_ok-get_one-2.field-0 c.in_ok-get_one-2.was
          c.get_one-2.ensures.none c.get_one-2.ensures.value;
      per_set = number_in_rows m (codes "per-set") 8 c.get_one-3.result c.in_ok-get_one-3.field-0 c.in_ok-get_one-3.was
          c.get_one-3.ensures.none c.get_one-3.ensures.value;
      movement = c.text_of-4.ensures;
      switched = number_in_rows m (codes "switched") 8 c.get_one-4.result c.in_ok-get_one-4.field-0 c.in_ok-get_one-4.was
          c.get_one-4.ensures.none c.get_one-4.ensures.value;
      absent = c.text_of-5.ensures;
      budget = number_in_rows m (codes "budget") 64 c.get_one-5.result c.in_ok-get_one-5.field-0 c.in_ok-get_one-5.was
          c.get_one-5.ensures.none c.get_one-5.ensures.value;
      title = c.text_of-6.ensures;
      date = c.text_of-7.ensures;
      address = c.text_of-8.ensures ∙ ap (option_map (λ t. t.now)) c.in_ok-text_of-4.was;
    }
