use Rattle.std.proofs.Common.{subst, ⊎_elim, ◌+◌, ◌%◌, ◌^◌, ◌==◌, sym, ap, ◌∙◌}
use prog.Atomic.{either}
use Rattle.table_shape.specs.declared.shape.Shape.{Shape}
use Rattle.table_shape.specs.Place.{index_of, IsInside}
use Rattle.atomic_step.specs.declared.access.Deed.{Deed}
use Rattle.atomic_step.specs.Access.{word_after}
use Rattle.cht_run.proofs.Deeds.{starts, exchanged, goes_first_stays}
use Rattle.cht_run.proofs.table.Cht.begin.Goals as goal

pub index-at-requires : goal.index-at-requires
index-at-requires g c = record { inside = subst (λ (shape : Shape). IsInside shape c.access-access.result.place) (sym c.args.self.now.laid) (rw c.access-access.ensures.value c.requires.sound.0) }

pub load-requires : goal.load-requires
load-requires g c =
    let s = c.args.self.now in
    let v = c.args.seat.now.me in
    let asks = starts s.table.shared.key.origin s.origin s.table.shared.table_id.words s.table.shared.table_id.slots c.args.seat.now.id v c.args.step c.access-access.result c.index-at.result s.of s.wide
    c.requires.sits.origin c.requires.sound c.access-access.ensures.value (c.index-at.ensures.value ∙ ap (λ (shape : Shape). index_of shape c.access-access.result.place) s.laid) (λ n. n)
    (λ n. sym (ap (λ (d : Deed). word_after d n) c.in-Load.is)) g.M.Began.call c.requires.call c.requires.next in
    (c.requires.sits.table, asks.0, asks.1)

pub fetch_add-requires : goal.fetch_add-requires
fetch_add-requires g c =
    let s = c.args.self.now in
    let v = c.args.seat.now.me in
    let asks = starts s.table.shared.key.origin s.origin s.table.shared.table_id.words s.table.shared.table_id.slots c.args.seat.now.id v c.args.step c.access-access.result c.index-at.result s.of s.wide
    c.requires.sits.origin c.requires.sound c.access-access.ensures.value (c.index-at.ensures.value ∙ ap (λ (shape : Shape). index_of shape c.access-access.result.place) s.laid) (λ n. (n + c.in-Add.value) % 2 ^ 64)
    (λ n. sym (ap (λ (d : Deed). word_after d n) c.in-Add.is)) g.M.Began.call c.requires.call c.requires.next in
    (c.requires.sits.table, asks.0, asks.1)

pub compare_exchange-requires : goal.compare_exchange-requires
compare_exchange-requires g c =
    let s = c.args.self.now in
    let v = c.args.seat.now.me in
    let asks = starts s.table.shared.key.origin s.origin s.table.shared.table_id.words s.table.shared.table_id.slots c.args.seat.now.id v c.args.step c.access-access.result c.index-at.result s.of s.wide
    c.requires.sits.origin c.requires.sound c.access-access.ensures.value (c.index-at.ensures.value ∙ ap (λ (shape : Shape). index_of shape c.access-access.result.place) s.laid) (λ n. either (n == c.in-Exchange.old) c.in-Exchange.new n)
    (λ n. exchanged (n == c.in-Exchange.old) c.in-Exchange.new n ∙ sym (ap (λ (d : Deed). word_after d n) c.in-Exchange.is)) g.M.Began.call c.requires.call c.requires.next in
    (c.requires.sits.table, asks.0, asks.1)

pub swap-requires : goal.swap-requires
swap-requires g c =
    let s = c.args.self.now in
    let v = c.args.seat.now.me in
    let asks = starts s.table.shared.key.origin s.origin s.table.shared.table_id.words s.table.shared.table_id.slots c.args.seat.now.id v c.args.step c.access-access.result c.index-at.result s.of s.wide
    c.requires.sits.origin c.requires.sound c.access-access.ensures.value (c.index-at.ensures.value ∙ ap (λ (shape : Shape). index_of shape c.access-access.result.place) s.laid) (λ n. c.in-Store.value)
    (λ n. ⊎_elim (λ is. sym (ap (λ (d : Deed). word_after d n) is)) (λ is. sym (ap (λ (d : Deed). word_after d n) is)) c.in-Store.is) g.M.Began.call c.requires.call c.requires.next in
    (c.requires.sits.table, asks.0, asks.1)

pub returns-in-Load-clause-sits : goal.returns-in-Load-clause-sits
returns-in-Load-clause-sits g c =
    let stays = goes_first_stays g.M.Began.call c.args.seat.now.me.0 c.load.new.seat.me.0 c.args.step c.load.result c.requires.next c.load.ensures.2.0 in
    record { table = c.load.ensures.0 ∙ c.requires.sits.table; origin = stays.0 ∙ c.requires.sits.origin; seat = stays.1 ∙ c.requires.sits.seat; bare = c.load.ensures.2.1 ∙ c.requires.sits.bare }

pub returns-in-Add-clause-sits : goal.returns-in-Add-clause-sits
returns-in-Add-clause-sits g c =
    let stays = goes_first_stays g.M.Began.call c.args.seat.now.me.0 c.fetch_add.new.seat.me.0 c.args.step c.fetch_add.result c.requires.next c.fetch_add.ensures.2.0 in
    record { table = c.fetch_add.ensures.0 ∙ c.requires.sits.table; origin = stays.0 ∙ c.requires.sits.origin; seat = stays.1 ∙ c.requires.sits.seat; bare = c.fetch_add.ensures.2.1 ∙ c.requires.sits.bare }

pub returns-in-Exchange-clause-sits : goal.returns-in-Exchange-clause-sits
returns-in-Exchange-clause-sits g c =
    let stays = goes_first_stays g.M.Began.call c.args.seat.now.me.0 c.compare_exchange.new.seat.me.0 c.args.step c.compare_exchange.result c.requires.next c.compare_exchange.ensures.2.0 in
    record { table = c.compare_exchange.ensures.0 ∙ c.requires.sits.table; origin = stays.0 ∙ c.requires.sits.origin; seat = stays.1 ∙ c.requires.sits.seat; bare = c.compare_exchange.ensures.2.1 ∙ c.requires.sits.bare }

pub returns-in-Store-clause-sits : goal.returns-in-Store-clause-sits
returns-in-Store-clause-sits g c =
    let stays = goes_first_stays g.M.Began.call c.args.seat.now.me.0 c.swap.new.seat.me.0 c.args.step c.swap.result c.requires.next c.swap.ensures.2.0 in
    record { table = c.swap.ensures.0 ∙ c.requires.sits.table; origin = stays.0 ∙ c.requires.sits.origin; seat = stays.1 ∙ c.requires.sits.seat; bare = c.swap.ensures.2.1 ∙ c.requires.sits.bare }
