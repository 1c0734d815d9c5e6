use Rattle.logic.proofs.Display.{display_words}
use Rattle.logic.proofs.display_shows_each_word.Goals as goal

pub returns : goal.returns
returns c = display_words
