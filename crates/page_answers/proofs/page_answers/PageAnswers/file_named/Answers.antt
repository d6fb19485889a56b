use Rattle.std.proofs.Common.{rules, tests, bytes_eq, string_bytes}
use Rattle.std.proofs.lemmas.Iterator.{YieldsList-from_slice}
use Rattle.std.proofs.lemmas.Iterator.Search.{find_from_yields_List}
use Rattle.page_answers.proofs.LookingLemmas.{found_of_map}
use Rattle.page_answers.proofs.page_answers.PageAnswers.file_named.Goals as goal

pub returns : goal.returns
returns c =
    let name = c.args.name.now in
    let files = c.args.self.now.files.items in
    found_of_map (λ tagged. tagged.now) (λ tagged. tagged.file) (λ file. bytes_eq (string_bytes file.name) name)
    c.find.result files
    (find_from_yields_List (λ tagged. bytes_eq (string_bytes tagged.file.name) name) _ _ _ c.find.ensures.ran
    (YieldsList-from_slice files (search rules)) (λ x b q k. search (rules, tests)))
