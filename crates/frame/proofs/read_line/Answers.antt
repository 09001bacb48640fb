-- The characters come one by one, and what is kept of them at the end reads as the line.
use mathlib.Core.Path.{◌≡◌, ap, ◌∙◌}
use mathlib.Core.List.{[], ◌∷◌}
use Rattle.std.proofs.Common.{rules}
use Rattle.std.proofs.lemmas.Fn.{fold_over, slice_gives, fronts}
use Rattle.line.specs.Frames.{reading}
use Rattle.line.specs.Unfinished.{blank, grown, reading_of}
use Rattle.line.proofs.Unfinished.{read_grown, grown_append}
use Rattle.frame.proofs.read_line.Goals as goal

pub returns : goal.returns
returns c =
    let e = fold_over fronts (λ y. y.now) _ (λ ys p. p ≡ grown blank ys) _
    (λ ys a x b f' j k. let more = grown_append blank ys (x.now ∷ []) in search rules)
    _ _ _ _ (slice_gives c.iter.result) c.blank_line.ensures c.fold.ensures.ran in
    c.read_partial.ensures ∙ ap reading_of e ∙ read_grown c.iter.result.rest.now ∙ ap reading c.iter.ensures.rest
