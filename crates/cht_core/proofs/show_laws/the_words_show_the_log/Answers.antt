use Rattle.cht_core.proofs.ShowsLog.{reached_words_show_the_log}
use Rattle.cht_core.proofs.show_laws.the_words_show_the_log.Goals as goal

-- src/show_laws.rt:13:1
pub returns : goal.returns
returns c = record { law = reached_words_show_the_log }
