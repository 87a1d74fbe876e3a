use Rattle.std.proofs.Common.{◌≡◌, ◌+◌, ℕ, List, [], length, get_or, sym, ap, subst, ◌∙◌, refl}
use Rattle.std.proofs.lemmas.List.{take_at}
use Rattle.atomic_table.specs.Table.{opening}
use Rattle.cht_core.specs.Anew.{HaveRoom, made_anew}
use Rattle.cht_run.specs.declared.sight.Origin.{Origin}
use Rattle.cht_run.specs.declared.sight.Sight.{Sight}
use Rattle.cht_run.specs.Heirs.{legacy_of, by_next, heir_of}
use Rattle.cht_run.specs.Rule.{Kept}
use Rattle.cht_run.proofs.Remade.{have_room, remade_from}
use Rattle.cht_run.proofs.rehash.remade.Goals as goal

pub make_anew-requires-clause-rooms : goal.make_anew-requires-clause-rooms
make_anew-requires-clause-rooms c =
    let o = c.args.old.shared.key.origin in
    let end = c.in_ok-words.ensures.taken.1 in
    subst (HaveRoom c.args.opening.now.origin.table.shape) (end.2 ∙ sym c.deref_mut.ensures.value)
    (subst (λ (x : Origin). HaveRoom x.table.shape end.0.words) (sym c.requires.next) (have_room o end.0 end.1.0))

pub of_words-requires : goal.of_words-requires
of_words-requires c =
    let o = c.args.old.shared.key.origin in
    let v = c.args.raw.me.0 in
    let end = c.in_ok-words.ensures.taken.1 in
    let level = c.index-2.result.now in
    let long : length c.make_anew.new.words ≡ c.in_ok-words.words.len = c.make_anew.auto.words ∙ c.deref_mut.ensures.len in
    let words : c.as_slice.result.now ≡ made_anew o.table.shape level (o.seed + 1) end.0.words =
    c.as_slice.ensures.value ∙ take_at c.make_anew.new.words _ c.in_ok-words.words.len long ∙ c.make_anew.ensures.value
    ∙ ap (λ (x : Origin). made_anew x.table.shape level x.seed c.deref_mut.result.now) c.requires.next ∙ ap (made_anew o.table.shape level (o.seed + 1)) (c.deref_mut.ensures.value ∙ sym end.2) in
    subst (λ (z : Sight). Kept c.args.opening.now.origin (opening c.as_slice.result.now [] z)) (sym c.requires.heir)
    (subst (λ (x : Origin). Kept x (opening c.as_slice.result.now [] (heir_of (by_next o) (legacy_of v)))) (sym c.requires.next)
    (remade_from o end.0 end.1.0 c.args.raw.id v end.1.1 c.requires.may c.index.result level level c.as_slice.result.now c.index.ensures.value (c.index-2.ensures ∙ ap (λ (l : List ℕ). get_or l c.index.result level) (sym end.2)) refl words))
