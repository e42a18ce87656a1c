pub mod CountLemmas
mod EndLemmas
mod KeptLemmas
pub mod LeastLemmas
pub mod RisingLemmas
pub mod SumLemmas
