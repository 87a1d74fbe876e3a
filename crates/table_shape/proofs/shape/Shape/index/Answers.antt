use Rattle.std.proofs.Common.{subst}
use Rattle.table_shape.specs.declared.place.Place.TheVariants as place
use Rattle.table_shape.specs.Place.{IsInside}
use Rattle.table_shape.proofs.Places.{index_within}
use Rattle.table_shape.proofs.shape.Shape.index.Goals as goal

pub returns-in-Section-clause-inside : goal.returns-in-Section-clause-inside
returns-in-Section-clause-inside c =
    rw c.section_at.ensures.value (index_within c.args.self.now (place.Section c.in-Section.seat) (subst (IsInside c.args.self.now) c.in-Section.is c.requires.inside))

pub returns-in-Head-clause-inside : goal.returns-in-Head-clause-inside
returns-in-Head-clause-inside c =
    rw c.head_at.ensures.value (index_within c.args.self.now (place.Head c.in-Head.row c.in-Head.bucket) (subst (IsInside c.args.self.now) c.in-Head.is c.requires.inside))
