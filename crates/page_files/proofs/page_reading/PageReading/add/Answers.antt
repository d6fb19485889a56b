use Rattle.std.proofs.Common.{rules, ◌≡◌, ◌+◌, ◌≤◌, length, is_ok, true}
use Rattle.page_files.specs.declared.page_reading.TheConstants.{MOST_PAGE_FILES}
use Rattle.page_files.proofs.PageLemmas.{names_more, room_less, count_more}
use Rattle.page_files.proofs.page_reading.PageReading.add.Goals as goal

pub returns : goal.returns
returns c =
    let files = c.args.self.now.files.items in
    let file = c.args.file in
    let good : is_ok c.push.result ≡ true = search rules in
    let items = rw good at c.push.ensures.items in
    let few : length files + 1 ≤ MOST_PAGE_FILES = search rules in
    record {
      names = rw items (names_more files file c.requires.reading.names c.requires.named);
      room = rw (items, c.len-length.ensures.value) (room_less files file c.args.self.now.left c.requires.reading.room c.requires.room);
      count = rw items (count_more files file few);
    }
