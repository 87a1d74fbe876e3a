use Rattle.std.proofs.Common.{◌≡◌, ◌+◌, length, sym, ap, subst, ◌∙◌, refl}
use Rattle.std.proofs.lemmas.List.{take_at}
use Rattle.cht_core.specs.Anew.{HaveRoom, made_anew}
use Rattle.cht_core.specs.State.{CanRehash}
use Rattle.cht_core.proofs.StateSteps.{shows_core, lawful_core}
use Rattle.cht_core.proofs.AnewState.{have_room, code_core, code_rehashed}
use Rattle.cht_core.proofs.state.State.rehash.Goals as goal

pub returns-then-not-can_rehash-clause-shows : goal.returns-then-not-can_rehash-clause-shows
returns-then-not-can_rehash-clause-shows c = rw (← c.self.view_is) (shows_core _ c.self.invariant)

pub returns-in_default-clause-shows : goal.returns-in_default-clause-shows
returns-in_default-clause-shows c = rw (← c.self.view_is) (shows_core _ c.self.invariant)

pub returns-in_default-record-clause-shows : goal.returns-in_default-record-clause-shows
returns-in_default-record-clause-shows c = rw c.in_default-record.ensures.err (shows_core _ c.self.invariant)

pub make_anew-requires-clause-rooms : goal.make_anew-requires-clause-rooms
make_anew-requires-clause-rooms c = subst (HaveRoom c.self.inside.table.shape) (sym c.deref_mut.ensures.value) (have_room _ c.self.invariant)

pub invariant_of-self-2 : goal.invariant_of-self-2
invariant_of-self-2 c =
    let can : CanRehash _ = subst CanRehash (sym c.self.view_is) (c.can_rehash.ensures.exact.0 c.if-not-can_rehash.false) in
    let long : length c.make_anew.new.words ≡ c.self.inside.words.len = c.make_anew.auto.words ∙ c.deref_mut.ensures.len in
    code_core _ c.self.invariant can c.index.result c.index-2.result.now _ _ _ c.record.new.log.items
    c.index.ensures.value c.index-2.ensures refl refl
    (take_at c.make_anew.new.words _ c.self.inside.words.len long ∙ c.make_anew.ensures.value ∙ ap (made_anew c.self.inside.table.shape c.index-2.result.now (c.self.inside.seed + 1)) c.deref_mut.ensures.value)
    c.in-Ok-record.ensures.ok

pub returns-clause-value : goal.returns-clause-value
returns-clause-value c =
    let can : CanRehash _ = subst CanRehash (sym c.self.view_is) (c.can_rehash.ensures.exact.0 c.if-not-can_rehash.false) in
    let long : length c.make_anew.new.words ≡ c.self.inside.words.len = c.make_anew.auto.words ∙ c.deref_mut.ensures.len in
    rw (← c.self.view_is) (code_rehashed _ c.self.invariant can c.index.result c.index-2.result.now _ _ _ c.record.new.log.items
    c.index.ensures.value c.index-2.ensures refl refl
    (take_at c.make_anew.new.words _ c.self.inside.words.len long ∙ c.make_anew.ensures.value ∙ ap (made_anew c.self.inside.table.shape c.index-2.result.now (c.self.inside.seed + 1)) c.deref_mut.ensures.value)
    c.in-Ok-record.ensures.ok)

pub returns-clause-lawful : goal.returns-clause-lawful
returns-clause-lawful c = lawful_core _ (invariant_of-self-2 c)

pub returns-clause-shows : goal.returns-clause-shows
returns-clause-shows c = shows_core _ (invariant_of-self-2 c)
