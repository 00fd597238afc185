-- The parts of a text as the code reads them, as lists and numbers.
use Rattle.std.specs.Prelude.{Result, Ok, Err}
use Rattle.domain_meta.specs.declared.reading.Fields.{Fields}
use Rattle.domain_meta.specs.declared.record.DomainRecord.{DomainRecord}

abbrev pub fields_view : Fields → DomainRecord
fields_view f = record {
  version = f.version;
  role = f.role;
  sduuid = f.sduuid;
  pool = f.pool;
  domains = f.domains;
  master_version = f.master_version;
  description = f.description.now;
}

abbrev pub fields_shown : {E : Type 0} → Result Fields E → Result DomainRecord E
fields_shown (Ok f) = Ok (fields_view f)
fields_shown (Err e) = Err e
