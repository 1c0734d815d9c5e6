use Rattle.logic.proofs.Words.{words_mean}
use Rattle.logic.proofs.words_mean_their_letters.Goals as goal

pub returns : goal.returns
returns c = words_mean
