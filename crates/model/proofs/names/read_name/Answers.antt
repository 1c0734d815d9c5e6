use Rattle.std.proofs.Common.{false, refl}
use Rattle.std.proofs.lemmas.Result.{err_from_is_err_and}
use Rattle.std.proofs.lemmas.Bool.Decides.{not_from_Decides}
use Rattle.words.proofs.Readers.{no_word}
use Rattle.model.specs.Rules.{name, at, model_rules}
use Rattle.model.proofs.NameWords.{name_kept, name_refused, name_reserved, name_read}
use Rattle.model.proofs.names.read_name.Goals as goal

pub returns-in_err-word-clause-reads : goal.returns-in_err-word-clause-reads
returns-in_err-word-clause-reads c =
    let p = err_from_is_err_and c.from_residual.result c.from_residual.ensures.1 in
    rw (p.1, p.2) (λ d m same. no_word model_rules (at (name c.args.kind m) d) c.args.reader.now c.word.new.self refl _ c.in_err-word.ensures.found)

pub returns-in_err-name-clause-reads : goal.returns-in_err-name-clause-reads
returns-in_err-name-clause-reads c =
    let p = err_from_is_err_and c.from_residual-in_err-name.result c.from_residual-in_err-name.ensures.1 in
    rw (p.1, p.2) (λ d m same. name_refused d c.args.kind m _ same c.args.reader.now c.word.new.self c.in_ok-word.word c.in_ok-word.ensures.found _ c.in_err-name.ensures)

pub returns-then-keeps-clause-reads : goal.returns-then-keeps-clause-reads
returns-then-keeps-clause-reads c =
    λ d m same. name_reserved d c.args.kind m _ same c.args.reader.now c.word.new.self c.in_ok-word.word c.in_ok-word.ensures.found c.in_ok-name.name c.in_ok-name.ensures (c.if-keeps.ensures.0 refl)

pub returns-clause-reads : goal.returns-clause-reads
returns-clause-reads c =
    λ d m same. name_read d c.args.kind m _ same c.args.reader.now c.word.new.self c.in_ok-word.word c.in_ok-word.ensures.found c.in_ok-name.name c.in_ok-name.ensures (not_from_Decides false c.if-keeps.ensures refl)

pub returns-clause-kept : goal.returns-clause-kept
returns-clause-kept c = name_kept _ c.in_ok-word.word c.in_ok-name.name c.in_ok-name.ensures
