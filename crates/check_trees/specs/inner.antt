-- What the tables hold that the walks over a body keep. No contract of a public function cites it.
pub mod Walks
