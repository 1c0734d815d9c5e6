use Rattle.std.proofs.Common.{map, refl}
use Rattle.std.proofs.lemmas.Result.{err_from_is_err_and}
use Rattle.words.specs.Words.{name_bytes}
use Rattle.words.proofs.Readers.{no_word}
use Rattle.formula.specs.Rules.{formula_rules}
use Rattle.formula.specs.VariablesReading.{due_name}
use Rattle.formula.proofs.NameWalks.{name_reads}
use Rattle.formula.proofs.variables.read_name.Goals as goal

pub returns-in_err-word-clause-reads : goal.returns-in_err-word-clause-reads
returns-in_err-word-clause-reads c =
    let p = err_from_is_err_and c.from_residual.result c.from_residual.ensures.1 in
    rw (p.1, p.2)
    (λ actions properties k. no_word (formula_rules actions properties) (due_name k (map name_bytes c.args.taken.now)) c.args.reader.now c.word.new.self refl _ c.in_err-word.ensures.found)

pub returns-clause-reads : goal.returns-clause-reads
returns-clause-reads c actions properties k =
    name_reads actions properties c.args.reader.now c.word.new.self c.in_ok-word.field-0 c.in_ok-word.ensures.found k (map name_bytes c.args.taken.now) c.new_name.result c.new_name.ensures
