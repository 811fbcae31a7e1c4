-- The refusals of a box's calls: number, layer and place of each.
use Rattle.std.specs.Prelude.{ℕ}
use Rattle.record.specs.Fault.{number as record_number}
use Rattle.table.specs.ClassFault.{class_number}
use Rattle.table.specs.Fault.{number as table_number}
use Rattle.boxes.specs.declared.fault.Cause.{Cause}
use Rattle.boxes.specs.declared.fault.Cause.TheVariants.{ShortShelf, NoRoom, NoFit, Unknown, NoReading, ShortList, TwoReadings}
use Rattle.boxes.specs.declared.fault.Layer.{Layer}
use Rattle.boxes.specs.declared.fault.Layer.TheVariants as layer
use Rattle.boxes.specs.declared.fault.Fault.{Fault}
use Rattle.boxes.specs.declared.fault.Fault.TheVariants.{Class, Record, Table, Boxes}
use Rattle.boxes.specs.declared.shelf.ShelfList.{ShelfList}
use Rattle.boxes.specs.declared.shelf.ShelfList.TheVariants.{Rules, Patterns, Records, Bytes}

-- the numbers of the box layer
abbrev pub own_number : Cause → ℕ
own_number ShortShelf = 9
own_number NoRoom = 10
own_number NoFit = 11
own_number Unknown = 13
own_number NoReading = 14
own_number ShortList = 15
own_number TwoReadings = 16

abbrev pub number : Fault → ℕ
number (Class f) = class_number f.cause
number (Record f) = record_number f.cause
number (Table f) = table_number f.cause
number (Boxes f) = own_number f.cause

abbrev pub place : Fault → ℕ
place (Class f) = f.place
place (Record f) = f.place
place (Table f) = f.place
place (Boxes f) = f.place

abbrev pub layer_of : Fault → Layer
layer_of (Class f) = layer.Class
layer_of (Record f) = layer.Record
layer_of (Table f) = layer.Table f.role
layer_of (Boxes f) = layer.Boxes

-- a refusal of the box layer
abbrev pub fault : Cause → ℕ → Fault
fault c p = Boxes (record { cause = c; place = p })

-- the number of a list of the shelf
abbrev pub place_of : ShelfList → ℕ
place_of Rules = 0
place_of Patterns = 1
place_of Records = 2
place_of Bytes = 3
