pub mod OpenFilesLemmas
