use Rattle.request_answers.proofs.ToldLemmas.{text_in_whole}
use Rattle.request_answers.proofs.laws.every_text.Goals as goal

pub returns : goal.returns
returns c opening stops later earlier history user request text journal =
    text_in_whole opening user request text journal stops later earlier history
