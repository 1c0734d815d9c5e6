use Rattle.std.proofs.Common.{ap, refl, ◌∙◌, rules, tests}
use Rattle.std.specs.Str.{bytes_eq}
use Rattle.std.specs.List.{list_any}
use Rattle.std.proofs.lemmas.Bool.Decides.{Decides-at}
use Rattle.std.proofs.lemmas.Iterator.{YieldsList-from_slice}
use Rattle.std.proofs.lemmas.Iterator.Search.{any_from_yields_List}
use Rattle.words.proofs.Lookups.{any_decides}
use Rattle.model.specs.Content.{reserved_words}
use Rattle.model.proofs.names.is_reserved.Goals as goal

pub returns : goal.returns
returns c =
    let any = any_from_yields_List (λ x. bytes_eq x.now c.args.word.now) _ _ _ c.any.ensures.ran (YieldsList-from_slice c.iter.result.rest.now refl) (λ x b q k. search (rules, tests)) in
    Decides-at c.any.result (list_any (λ x. bytes_eq x c.args.word.now) reserved_words) (any ∙ ap (list_any (λ x. bytes_eq x.now c.args.word.now)) c.iter.ensures.rest) (any_decides c.args.word.now reserved_words)
