-- What the rows look at, of areas that don't hit row 1.
use Rattle.builder.specs.View.{View}
use Rattle.builder.specs.Area.{view_of}
use Rattle.builder_rows.specs.declared.Areas.{Areas}

abbrev pub shown : Areas → View
shown areas = view_of areas.builder areas.blocks.now areas.keys.now
