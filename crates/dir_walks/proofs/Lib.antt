pub mod Goes
pub mod At
pub mod Made
pub mod Placed
pub mod Opens
