-- The values of a text as the code reads them, as lists and numbers.
use Rattle.std.specs.Prelude.{Result, Ok, Err}
use Rattle.volume_meta.specs.declared.reading.Fields.{Fields}
use Rattle.volume_meta.specs.declared.record.VolumeRecord.{VolumeRecord}

abbrev pub fields_view : Fields → VolumeRecord
fields_view f = record {
  capacity = f.capacity;
  ctime = f.ctime;
  description = f.description.now;
  disk_type = f.disk_type.now;
  domain = f.domain;
  format = f.format;
  generation = f.generation;
  image = f.image;
  legality = f.legality;
  merged = f.merged;
  parent = f.parent;
  kind = f.kind;
  voltype = f.voltype;
}

abbrev pub fields_shown : {E : Type 0} → Result Fields E → Result VolumeRecord E
fields_shown (Ok f) = Ok (fields_view f)
fields_shown (Err e) = Err e
